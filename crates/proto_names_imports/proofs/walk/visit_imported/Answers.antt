use Rattle.std.proofs.Common.{◌<◌, false, length, get_or, map, take, sym, subst, arith}
use Rattle.std.proofs.lemmas.List.{map_more}
use Rattle.proto_names_imports.specs.Common.{FileImport}
use Rattle.proto_names_imports.specs.Walks.{Visits}
use Rattle.proto_names_imports.proofs.Walks.{visit_one}
use Rattle.proto_names_imports.proofs.walk.visit_imported.Goals as goal

pub loop-import-preserved : goal.loop-import-preserved
loop-import-preserved c =
    let i = c.loop-import.import-index in
    let none : FileImport = record { to = 0; is_public = false } in
    let import = get_or c.args.imports.now i none in
    let l : i < length c.args.imports.now = c.loop-import-test.true in
    let within : import.to < length c.loop-import.seen = let r = c.requires i none l in omega (arith, r, c.loop-import.invariant.sized) in
    subst (λ ns. Visits ns c.args.seen.now c.args.todo.now.items c.visit_file.new.seen c.visit_file.new.todo.items) (sym (map_more (λ (i : FileImport). i.to) c.args.imports.now i none l))
    (visit_one (map (λ (i : FileImport). i.to) (take i c.args.imports.now)) import.to c.args.seen.now c.args.todo.now.items c.loop-import.seen c.loop-import.todo.items c.visit_file.new.seen c.visit_file.new.todo.items c.loop-import.invariant within c.in_ok-visit_file.ensures.old c.in_ok-visit_file.ensures.new)
