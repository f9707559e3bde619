use Rattle.std.proofs.Common.{◌≡◌, ◌<◌, ℕ, List, [], length, get_or, map, option_map, sym, ◌∙◌, ap, subst, arith, Contains}
use Rattle.proto_base.proofs.Common.{length-map, IfOk-weaker}
use Rattle.proto_names_rules.specs.Faults.{imports_of}
use Rattle.proto_names_imports.specs.Common.{all_asked, all_imports, fault_of, AreTurned, AreImporters, CycleFault, IsFileIndex, IsFirst}
use Rattle.proto_names_imports.proofs.ImportGraph.{IsGraph, graph_of, importers_of, no_cycle, within_map, all_within, targets_twice}
use Rattle.proto_names_imports.proofs.Turned.{contains_within}
use Rattle.proto_names_imports.proofs.import_cycles.first_on_cycle.Goals as goal

pub importers_of_each-requires-clause-within : goal.importers_of_each-requires-clause-within
importers_of_each-requires-clause-within c =
    all_within (λ v. v.items) (length c.deref.result.now) c.deref.result.now (λ k b e.
    (let n = length-map c.in_ok-next.next.items (λ v. v.items) in
    let m = length-map c.args.imports.now (λ v. map (λ i. i.to) v.items) in
    let d = subst (λ z. Contains (get_or (map (λ v. v.items) z) k []) b) c.deref.ensures.value e in
    let w = within_map (λ v. v.items) (length c.args.files.now) c.args.imports.now c.requires.within k b (subst (λ z. Contains (get_or z k []) b) c.in_ok-next.ensures d) in
    omega (arith, w, n, m, ap length c.in_ok-next.ensures, ap length c.deref.ensures.value, c.requires.paired)))

pub importers_of_each-requires-clause-count : goal.importers_of_each-requires-clause-count
importers_of_each-requires-clause-count c =
    let n = length-map c.in_ok-next.next.items (λ v. v.items) in
    let m = length-map c.args.imports.now (λ v. map (λ i. i.to) v.items) in
    omega (arith, n, m, ap length c.in_ok-next.ensures, ap length c.deref.ensures.value, c.requires.paired, c.requires.count)

pub ranks-requires-clause-paired : goal.ranks-requires-clause-paired
ranks-requires-clause-paired c = ap length c.deref-3.ensures.value ∙ c.in_ok-importers.ensures.len ∙ ap length c.deref.ensures.value ∙ sym (ap length c.deref-2.ensures.value)

pub ranks-requires-clause-count : goal.ranks-requires-clause-count
ranks-requires-clause-count c =
    let n = length-map c.in_ok-next.next.items (λ v. v.items) in
    let m = length-map c.args.imports.now (λ v. map (λ i. i.to) v.items) in
    omega (arith, n, m, ap length c.in_ok-next.ensures, ap length c.deref-2.ensures.value, c.requires.paired, c.requires.count)

pub ranks-requires-clause-within : goal.ranks-requires-clause-within
ranks-requires-clause-within c =
    all_within (λ v. v.items) (length c.deref-2.result.now) c.deref-3.result.now (λ k b e.
    (let n = length-map c.deref.result.now (λ v. v.items) in
    let d = subst (λ z. Contains (get_or (map (λ v. v.items) z) k []) b) c.deref-3.ensures.value e in
    let w = contains_within (map (λ v. v.items) c.deref.result.now) b k ((c.in_ok-importers.ensures.exact b k).1 d) in
    omega (arith, w, n, ap length c.deref.ensures.value, ap length c.deref-2.ensures.value)))

pub falls-requires-clause-len : goal.falls-requires-clause-len
falls-requires-clause-len c = ap length c.deref-5.ensures.value ∙ c.in_ok-ranks.ensures ∙ ap length c.deref-2.ensures.value ∙ sym (ap length c.deref-4.ensures.value)

pub falls-requires-clause-within : goal.falls-requires-clause-within
falls-requires-clause-within c =
    all_within (λ v. v.items) (length c.deref-4.result.now) c.deref-4.result.now (λ k b e.
    (let n = length-map c.in_ok-next.next.items (λ v. v.items) in
    let m = length-map c.args.imports.now (λ v. map (λ i. i.to) v.items) in
    let d = subst (λ z. Contains (get_or (map (λ v. v.items) z) k []) b) c.deref-4.ensures.value e in
    let w = within_map (λ v. v.items) (length c.args.files.now) c.args.imports.now c.requires.within k b (subst (λ z. Contains (get_or z k []) b) c.in_ok-next.ensures d) in
    omega (arith, w, n, m, ap length c.in_ok-next.ensures, ap length c.deref-4.ensures.value, c.requires.paired)))

pub returns-then-falls : goal.returns-then-falls
returns-then-falls c = λ paths index same f p.
    (let is = map (λ v. v.items) c.args.imports.now in
    let next = map (λ v. v.items) c.in_ok-next.next.items in
    let e = c.in_ok-next.ensures ∙ targets_twice (λ v. v.items) c.args.imports.now in
    let g = subst (λ z. IsGraph z (imports_of paths (all_asked 0 (map (λ v. v.items) c.args.files.now)))) (sym e) (subst (IsGraph (map (map (λ i. i.to)) is)) same (graph_of is)) in
    let falls = subst (λ z. (a b : ℕ) → Contains (get_or (map (λ v. v.items) z) a []) b → get_or c.deref-5.result.now b 0 < get_or c.deref-5.result.now a 0) c.deref-4.ensures.value (c.falls.ensures c.if-falls.true) in
    no_cycle (λ k. get_or c.deref-5.result.now k 0) next paths (all_asked 0 (map (λ v. v.items) c.args.files.now)) g falls p)

pub first_back-requires-clause-paired : goal.first_back-requires-clause-paired
first_back-requires-clause-paired c =
    let n = length-map c.in_ok-next.next.items (λ v. v.items) in
    let m = length-map c.args.imports.now (λ v. map (λ i. i.to) v.items) in
    omega (arith, n, m, ap length c.in_ok-next.ensures, ap length c.deref.ensures.value, c.in_ok-importers.ensures.len, ap length c.deref-6.ensures.value, c.requires.paired)

pub first_back-requires-clause-within : goal.first_back-requires-clause-within
first_back-requires-clause-within c =
    all_within (λ v. v.items) (length c.deref-6.result.now) c.deref-6.result.now (λ k b e.
    (let n = length-map c.deref.result.now (λ v. v.items) in
    let d = subst (λ z. Contains (get_or (map (λ v. v.items) z) k []) b) c.deref-6.ensures.value e in
    let w = contains_within (map (λ v. v.items) c.deref.result.now) b k ((c.in_ok-importers.ensures.exact b k).1 d) in
    omega (arith, w, n, c.in_ok-importers.ensures.len, ap length c.deref-6.ensures.value)))

pub returns : goal.returns
returns c =
    let asked = all_asked 0 (map (λ v. v.items) c.args.files.now) in
    IfOk-weaker c.first_back.result
    (λ o. (paths : List (List ℕ)) → IsFileIndex c.args.index.now paths → AreImporters (map (λ v. v.items) c.deref-6.result.now) (imports_of paths asked) → IsFirst (CycleFault paths asked) (option_map fault_of o))
    (λ o. (paths : List (List ℕ)) → IsFileIndex c.args.index.now paths → all_imports 0 (map (λ v. v.items) c.args.imports.now) ≡ imports_of paths asked → IsFirst (CycleFault paths asked) (option_map fault_of o))
    (λ o h paths index same.
    (let is = map (λ v. v.items) c.args.imports.now in
    let next = map (λ v. v.items) c.in_ok-next.next.items in
    let e = c.in_ok-next.ensures ∙ targets_twice (λ v. v.items) c.args.imports.now in
    let g = subst (λ z. IsGraph z (imports_of paths asked)) (sym e) (subst (IsGraph (map (map (λ i. i.to)) is)) same (graph_of is)) in
    let t = subst (λ z. AreTurned (map (λ v. v.items) z) (map (λ v. v.items) c.deref-6.result.now)) c.deref.ensures.value
    (subst (λ z. AreTurned (map (λ v. v.items) c.deref.result.now) (map (λ v. v.items) z)) (sym c.deref-6.ensures.value) c.in_ok-importers.ensures.exact) in
    h paths index (importers_of next (map (λ v. v.items) c.deref-6.result.now) (imports_of paths asked) g t)))
    c.first_back.ensures
