use Rattle.std.proofs.Common.{◌<◌, length, get_or, sym, subst, arith, take, take_all}
use Rattle.std.proofs.lemmas.List.{take_more}
use Rattle.proto_names_imports.specs.Walks.{Visits}
use Rattle.proto_names_imports.proofs.Walks.{visit_one, visits_none}
use Rattle.proto_names_imports.proofs.walk.visit.Goals as goal

pub loop-file-init : goal.loop-file-init
loop-file-init c = visits_none c.args.seen.now c.args.todo.now.items

pub loop-file-preserved : goal.loop-file-preserved
loop-file-preserved c =
    let i = c.loop-file.file-index in
    let l : i < length c.args.next.now = c.loop-file-test.true in
    let within : get_or c.args.next.now i 0 < length c.loop-file.seen = let r = c.requires i 0 l in omega (arith, r, c.loop-file.invariant.sized) in
    subst (λ ns. Visits ns c.args.seen.now c.args.todo.now.items c.visit_file.new.seen c.visit_file.new.todo.items) (sym (take_more c.args.next.now i 0 l))
    (visit_one (take i c.args.next.now) (get_or c.args.next.now i 0) c.args.seen.now c.args.todo.now.items c.loop-file.seen c.loop-file.todo.items c.visit_file.new.seen c.visit_file.new.todo.items c.loop-file.invariant within c.in_ok-visit_file.ensures.old c.in_ok-visit_file.ensures.new)

pub returns : goal.returns
returns c = subst (λ ns. Visits ns c.args.seen.now c.args.todo.now.items c.loop-file.seen c.loop-file.todo.items) (take_all c.loop-file.file-index c.args.next.now c.loop-file-test.false) c.loop-file.invariant
