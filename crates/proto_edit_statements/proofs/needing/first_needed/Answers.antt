use Rattle.std.proofs.Common.{◌<◌, [], length, sym, ◌∙◌, ap, arith}
use Rattle.std.proofs.lemmas.List.{get_or_default}
use Rattle.proto_edit_statements.specs.Steps.{first_hidden}
use Rattle.proto_edit_statements.proofs.Needed.{first_of_all, none_in_all}
use Rattle.proto_edit_statements.proofs.needing.first_needed.Goals as goal

pub returns-in-Some : goal.returns-in-Some
returns-in-Some c = λ reads are k path sees. (
    let seen = c.args.seen.now in
    let place = c.loop-place.place in
    let test = c.loop-place-test.true in
    let count = c.file_count-place-end.ensures.len in
    let same = c.requires in
    let l : place < length c.args.linked.now.files = omega (arith, test, count) in
    let m : place < length seen = omega (arith, test, count, same) in
    let marks = c.index-seen-place.is ∙ get_or_default seen place c.index-seen-place.result [] m in
    first_of_all c.args.linked.now.files reads are c.link-link.ensures.clean.clean c.args.linked.now.link c.link-link.ensures.clean.link k path seen sees place c.in-Some.token l (rw c.link-link.ensures.link at c.loop-place.invariant)
    (ap (first_hidden c.args.linked.now.link place) (sym marks) ∙ sym (rw c.link-link.ensures.link at c.in-Some.ensures)))

pub returns : goal.returns
returns c = λ reads are k path sees.
    none_in_all c.args.linked.now.files reads are c.link-link.ensures.clean.clean c.args.linked.now.link c.link-link.ensures.clean.link k path c.args.seen.now sees c.loop-place.place (let f = c.loop-place-test.false in let count = c.file_count-place-end.ensures.len in let e = c.loop-place.auto.place-end in omega (arith, f, count, e)) (rw c.link-link.ensures.link at c.loop-place.invariant)
