use Rattle.std.proofs.Common.{◌<◌, [], get_or, map, option_map, sym, ◌∙◌, ap, subst, arith}
use Rattle.std.proofs.lemmas.List.{get_or-map, length-map}
use Rattle.proto_names_imports.specs.Common.{fault_of, IsFirst, MarkedFault}
use Rattle.proto_names_imports.proofs.CycleFaults.{cycle_within, cycle_some, cycle_more}
use Rattle.proto_names_imports.proofs.import_cycles.first_back.Goals as goal

pub returns-in-Some : goal.returns-in-Some
returns-in-Some c = λ paths index ok. (
    let n = length-map c.args.files.now (λ v. v.items) in
    let fs = map (λ v. v.items) c.args.files.now in
    let back = map (λ v. v.items) c.args.importers.now in
    let e = c.deref.ensures.value ∙ ap (λ v. v.items) c.index-files-file.is ∙ sym (get_or-map (λ v. v.items) c.args.files.now c.loop-file.file c.index-files-file.result [] c.loop-file-test.true) in
    let h = subst (λ ws. IsFirst (MarkedFault paths c.in_ok-leading.leading c.loop-file.file ws) (option_map fault_of c.first_to_one_in.result)) e (c.first_to_one_in.ensures paths index) in
    let s = subst (λ o. IsFirst (MarkedFault paths c.in_ok-leading.leading c.loop-file.file (get_or fs c.loop-file.file [])) (option_map fault_of o)) c.in-Some.is h in
    let marks = c.in_ok-leading.ensures.exact in
    cycle_some paths fs back c.in_ok-leading.leading c.loop-file.file (fault_of c.in-Some.bad) ok marks (omega (arith, c.loop-file-test.true, n)) (c.loop-file.invariant paths index ok) s)

pub loop-file-preserved : goal.loop-file-preserved
loop-file-preserved c = λ paths index ok. (
    let fs = map (λ v. v.items) c.args.files.now in
    let back = map (λ v. v.items) c.args.importers.now in
    let e = c.deref.ensures.value ∙ ap (λ v. v.items) c.index-files-file.is ∙ sym (get_or-map (λ v. v.items) c.args.files.now c.loop-file.file c.index-files-file.result [] c.loop-file-test.true) in
    let h = subst (λ ws. IsFirst (MarkedFault paths c.in_ok-leading.leading c.loop-file.file ws) (option_map fault_of c.first_to_one_in.result)) e (c.first_to_one_in.ensures paths index) in
    let s = subst (λ o. IsFirst (MarkedFault paths c.in_ok-leading.leading c.loop-file.file (get_or fs c.loop-file.file [])) (option_map fault_of o)) c.in_default.is h in
    let marks = c.in_ok-leading.ensures.exact in
    cycle_more paths fs back c.in_ok-leading.leading c.loop-file.file ok marks (c.loop-file.invariant paths index ok) s)

pub returns : goal.returns
returns c = λ paths index ok f p. (
    let fs = map (λ v. v.items) c.args.files.now in
    let n = length-map c.args.files.now (λ v. v.items) in
    let l : f.place.file < c.loop-file.file = let q = cycle_within paths fs p in omega (arith, q, n, c.loop-file-test.false) in
    c.loop-file.invariant paths index ok f p l)
