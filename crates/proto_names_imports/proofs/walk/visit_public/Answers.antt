use Rattle.std.proofs.Common.{◌<◌, ◌∷◌, ◌++◌, [], ℕ, List, false, filter, length, get_or, map, take, sym, subst, arith}
use Rattle.proto_base.proofs.Common.{Vec}
use Rattle.proto_names_imports.specs.Common.{FileImport}
use Rattle.proto_names_imports.specs.Walks.{Visits}
use Rattle.proto_names_imports.proofs.Walks.{passing_more, passing_same, visit_one}
use Rattle.proto_names_imports.proofs.walk.visit_public.Goals as goal
use Rattle.proto_names_imports.proofs.walk.visit_public.Goals.{then-import+in_ok-visit_file, else-import}

pub loop-import-preserved : goal.loop-import-preserved
loop-import-preserved c =
    let i = c.loop-import.import-index in
    let none : FileImport = record { to = 0; is_public = false } in
    let imports = c.args.imports.now in
    let import = get_or imports i none in
    let seen = c.args.seen.now in
    let todo = c.args.todo.now.items in
    let done : List ℕ = map (λ (i : FileImport). i.to) (filter (λ (i : FileImport). i.is_public) (take i imports)) in
    let l : i < length imports = c.loop-import-test.true in
    let within : import.to < length c.loop-import.seen = let r = c.requires i none l in omega (arith, r, c.loop-import.invariant.sized) in
    elim c.if-import.branch [
      | then-import+in_ok-visit_file w ↦
          let more = done ++ import.to ∷ [] in
          subst (λ ns. Visits ns seen todo c.if-import.seen c.if-import.todo.items) (sym (passing_more (λ (i : FileImport). i.is_public) (λ (i : FileImport). i.to) imports i none l w.if-import.true))
          (subst (λ z. Visits more seen todo z c.if-import.todo.items) (sym w.seen-is)
          (subst (λ (z : Vec ℕ). Visits more seen todo w.visit_file.new.seen z.items) (sym w.todo-is)
          (visit_one done import.to seen todo c.loop-import.seen c.loop-import.todo.items w.visit_file.new.seen w.visit_file.new.todo.items c.loop-import.invariant within w.in_ok-visit_file.ensures.old w.in_ok-visit_file.ensures.new)))
      | else-import w ↦
          subst (λ ns. Visits ns seen todo c.if-import.seen c.if-import.todo.items) (sym (passing_same (λ (i : FileImport). i.is_public) (λ (i : FileImport). i.to) imports i none l w.if-import.false))
          (subst (λ z. Visits done seen todo z c.if-import.todo.items) (sym w.seen-is)
          (subst (λ (z : Vec ℕ). Visits done seen todo c.loop-import.seen z.items) (sym w.todo-is) c.loop-import.invariant))
    ]
