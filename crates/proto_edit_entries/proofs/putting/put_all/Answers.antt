use Rattle.std.proofs.Common.{◌∙◌, ◌<◌, ◌≤◌, length, map, ap, arith}
use Rattle.proto_base.proofs.Common.{files_of_as}
use Rattle.proto_files.specs.GivenFiles.{no_file}
use Rattle.proto_edit_entries.specs.Entries.{change_of}
use Rattle.proto_edit_entries.proofs.Walks.{nothing_in, something_in, walk_step, walk_stuck, walked_all, walked_none}
use Rattle.proto_edit_entries.proofs.putting.put_all.Goals as goal

pub loop-place-preserved : goal.loop-place-preserved
loop-place-preserved c = λ p language.
    (let files = c.args.files.now in
    let place = c.loop-place.place in
    let within : place < length files = omega (arith, c.len-place-end.ensures.len, c.loop-place-test.true) in
    let next = rw c.in-Some.is at (c.in_ok-bytes.ensures p) in
    walk_step p files (map change_of c.args.changes.now) (map change_of c.loop-place.left.now) (map change_of c.in-Some.rest.now) place c.loop-place.list.items c.push.new.self.items c.path-path.result.now c.as_bytes-text.result.now c.in_ok-to_string.field-0 c.in-Some.bytes
    within (language place no_file within) (c.loop-place.invariant p language) c.path-path.ensures (c.as_bytes-text.ensures.value ∙ c.source.ensures) next c.in_ok-to_string.ensures.ok c.in_ok-push.ensures.items)

pub returns-then-is_empty : goal.returns-then-is_empty
returns-then-is_empty c = λ p language.
    (let files = c.args.files.now in
    let place = c.loop-place.place in
    let end : length files ≤ place = omega (arith, c.len-place-end.ensures.len, c.loop-place-test.false) in
    let none = nothing_in c.loop-place.left.now c.is_empty.result c.is_empty.ensures c.if-is_empty.true in
    walked_all files (map change_of c.args.changes.now) place (map change_of c.loop-place.left.now) (files_of_as p c.loop-place.list.items) end (c.loop-place.invariant p language) (ap (map change_of) none))

pub returns-in_default : goal.returns-in_default
returns-in_default c = λ p language.
    (let files = c.args.files.now in
    let place = c.loop-place.place in
    let within : place < length files = omega (arith, c.len-place-end.ensures.len, c.loop-place-test.true) in
    let none = rw c.in_default.is at (c.in_ok-bytes.ensures p) in
    walk_stuck p files (map change_of c.args.changes.now) (map change_of c.loop-place.left.now) place (files_of_as p c.loop-place.list.items) c.path-path.result.now c.as_bytes-text.result.now
    within (language place no_file within) (c.loop-place.invariant p language) c.path-path.ensures (c.as_bytes-text.ensures.value ∙ c.source.ensures) none)

pub returns-else-is_empty : goal.returns-else-is_empty
returns-else-is_empty c = λ p language.
    (let files = c.args.files.now in
    let place = c.loop-place.place in
    let end : length files ≤ place = omega (arith, c.len-place-end.ensures.len, c.loop-place-test.false) in
    let some = something_in change_of c.loop-place.left.now c.is_empty.result c.is_empty.ensures c.if-is_empty.false in
    walked_none files (map change_of c.args.changes.now) place (map change_of c.loop-place.left.now) (files_of_as p c.loop-place.list.items) end (c.loop-place.invariant p language) some)
