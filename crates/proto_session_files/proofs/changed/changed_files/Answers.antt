use Rattle.std.proofs.Common.{◌≡◌, ◌<◌, ◌≤◌, get_or, length, rules}
use Rattle.proto_base.specs.GivenFiles.{files_of_as}
use Rattle.proto_files.specs.GivenFiles.{file_at}
use Rattle.proto_session_files.proofs.ChangedFiles.{added_in, changed_all, changed_more, changed_none}
use Rattle.proto_session_files.proofs.changed.changed_files.Goals as goal

pub loop-place-init : goal.loop-place-init
loop-place-init c = changed_none c.args.profile c.args.clean.now c.args.files.now (files_of_as c.args.profile c.new-changed.result.items) (search rules)

pub loop-place-preserved : goal.loop-place-preserved
loop-place-preserved c =
    let p = c.args.profile in
    let w = c.args.clean.now in
    let xs = c.args.files.now in
    let i = c.loop-place.place in
    let x = c.index-files-place.result in
    let l : i < length w = search rules in
    let m : i < length xs = search rules in
    let at : x ≡ get_or xs i x = search rules in
    let text : c.as_bytes-old.result.now ≡ (file_at w i).bytes = search rules in
    let path = c.is_at.ensures.path c.if-not-is_at.false in
    let profile = c.is_at.ensures.profile c.if-not-is_at.false in
    changed_more p w xs i x l m at path (files_of_as p c.loop-place.changed.items) (files_of_as p c.add_changed.new.changed.items)
    (added_in p w x i c.loop-place.changed.items c.add_changed.new.changed.items path profile (rw text at c.in_ok-add_changed.ensures)) c.loop-place.invariant

pub returns : goal.returns
returns c =
    let l : length c.args.clean.now ≤ c.loop-place.place = search rules in
    let m : length c.args.files.now ≤ c.loop-place.place = search rules in
    changed_all c.args.profile c.args.clean.now c.args.files.now c.loop-place.place (files_of_as c.args.profile c.loop-place.changed.items) l m c.loop-place.invariant
