use Rattle.std.proofs.Common.{◌≡◌, ◌<◌, ℕ, List, [], length, get_or, map, false, sym, ◌∙◌, ap, subst, arith}
use Rattle.proto_base.proofs.Common.{get_or-map, length-map}
use Rattle.std.proofs.lemmas.List.{length-replicate}
use Rattle.proto_names_imports.specs.Common.{FileImport}
use Rattle.proto_names_imports.specs.Walks.{Visits}
use Rattle.proto_names_imports.proofs.LedTo.{marks_led_to}
use Rattle.proto_names_imports.proofs.Walks.{IsPart, part_firsts, part_more, unmarked_none, marked_within, no_elements, last_in}
use Rattle.proto_names_imports.proofs.walk.files_led_to.Goals as goal

pub loop-file-init : goal.loop-file-init
loop-file-init c =
    let next = map (λ v. map (λ i. i.to) v.items) c.args.imports.now in
    let firsts : List ℕ = map (λ (i : FileImport). i.to) c.args.first.now in
    let n = length-map c.args.imports.now (λ v. map (λ i. i.to) v.items) in
    let long : length c.in_ok-seen.seen ≡ length next = ap length c.in_ok-seen.ensures ∙ length-replicate (length c.args.imports.now) false ∙ sym n in
    part_firsts next firsts c.in_ok-seen.seen c.visit_imported.new.seen c.visit_imported.new.todo.items long (λ g. ap (λ z. get_or z g false) c.in_ok-seen.ensures ∙ unmarked_none (length c.args.imports.now) g)
    (subst (λ z. Visits firsts c.in_ok-seen.seen z c.visit_imported.new.seen c.visit_imported.new.todo.items) c.new-todo.ensures.items c.in_ok-visit_imported.ensures)

pub bounds-imports-file : goal.bounds-imports-file
bounds-imports-file c =
    let next = map (λ v. map (λ i. i.to) v.items) c.args.imports.now in
    let n = length-map c.args.imports.now (λ v. map (λ i. i.to) v.items) in
    let p = subst (IsPart next (map (λ (i : FileImport). i.to) c.args.first.now) c.loop-file.seen) c.in-Some.ensures.items c.loop-file.invariant in
    let m = marked_within c.loop-file.seen c.in-Some.file (p.waiting c.in-Some.file (last_in c.pop.new.self.items c.in-Some.file)) in
    omega (arith, m, n, p.sized)

pub visit_imported-requires-in-Some : goal.visit_imported-requires-in-Some
visit_imported-requires-in-Some c = λ k d l. (
    let next = map (λ v. map (λ i. i.to) v.items) c.args.imports.now in
    let n = length-map c.args.imports.now (λ v. map (λ i. i.to) v.items) in
    let p = subst (IsPart next (map (λ (i : FileImport). i.to) c.args.first.now) c.loop-file.seen) c.in-Some.ensures.items c.loop-file.invariant in
    let m = marked_within c.loop-file.seen c.in-Some.file (p.waiting c.in-Some.file (last_in c.pop.new.self.items c.in-Some.file)) in
    let lt : c.in-Some.file < length c.args.imports.now = omega (arith, m, n, p.sized) in
    let e = c.deref.ensures.value ∙ ap (λ v. v.items) c.index-imports-file.is in
    let q = c.requires.within c.in-Some.file c.index-imports-file.result lt k d (subst (λ (z : List FileImport). k < length z) e l) in
    let r = subst (λ (z : List FileImport). (get_or z k d).to < length c.args.imports.now) (sym e) q in
    omega (arith, r, n, p.sized))

pub loop-file-preserved : goal.loop-file-preserved
loop-file-preserved c =
    let next = map (λ v. map (λ i. i.to) v.items) c.args.imports.now in
    let firsts : List ℕ = map (λ (i : FileImport). i.to) c.args.first.now in
    let n = length-map c.args.imports.now (λ v. map (λ i. i.to) v.items) in
    let p = subst (IsPart next firsts c.loop-file.seen) c.in-Some.ensures.items c.loop-file.invariant in
    let m = marked_within c.loop-file.seen c.in-Some.file (p.waiting c.in-Some.file (last_in c.pop.new.self.items c.in-Some.file)) in
    let lt : c.in-Some.file < length c.args.imports.now = omega (arith, m, n, p.sized) in
    let e = ap (map (λ (i : FileImport). i.to)) (c.deref.ensures.value ∙ ap (λ v. v.items) c.index-imports-file.is) ∙ sym (get_or-map (λ v. map (λ i. i.to) v.items) c.args.imports.now c.in-Some.file c.index-imports-file.result [] lt) in
    part_more next firsts c.in-Some.file c.loop-file.seen c.pop.new.self.items c.visit_imported-in-Some.new.seen c.visit_imported-in-Some.new.todo.items p
    (subst (λ z. Visits z c.loop-file.seen c.pop.new.self.items c.visit_imported-in-Some.new.seen c.visit_imported-in-Some.new.todo.items) e c.in_ok-visit_imported-2.ensures)

pub returns : goal.returns
returns c =
    let next = map (λ v. map (λ i. i.to) v.items) c.args.imports.now in
    marks_led_to (λ v. v.items) c.args.imports.now c.args.first.now c.loop-file.seen
    (subst (IsPart next (map (λ (i : FileImport). i.to) c.args.first.now) c.loop-file.seen) (no_elements c.loop-file.todo.items (sym c.loop-file.todo.ok.0 ∙ c.in_default.ensures.cases.0)) c.loop-file.invariant)
