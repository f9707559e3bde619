use Rattle.std.proofs.Common.{◌≡◌, ◌↔◌, ◌<◌, ℕ, true, [], length, get_or, map, refl, sym, ◌∙◌, ap, subst, arith, Contains}
use Rattle.proto_base.proofs.Common.{length-map, IfOk-weaker}
use Rattle.proto_names_rules.specs.Cycles.{IsAcyclic}
use Rattle.proto_names_imports.specs.Common.{all_imports, AreTurned, NoneLeadsBack}
use Rattle.proto_names_imports.proofs.Acyclic.{acyclic_by_ranks, acyclic_by_walks, told_alike}
use Rattle.proto_names_imports.proofs.ImportGraph.{IsGraph, graph_of, importers_of, within_map, all_within, targets_twice}
use Rattle.proto_names_imports.proofs.Turned.{contains_within}
use Rattle.proto_names_imports.proofs.import_cycles.has_no_cycle.Goals as goal

pub importers_of_each-requires-clause-within : goal.importers_of_each-requires-clause-within
importers_of_each-requires-clause-within c =
    all_within (λ v. v.items) (length c.deref.result.now) c.deref.result.now (λ k b e.
    (let n = length-map c.in_ok-next.next.items (λ v. v.items) in
    let m = length-map c.args.imports.now (λ v. map (λ i. i.to) v.items) in
    let d = subst (λ z. Contains (get_or (map (λ v. v.items) z) k []) b) c.deref.ensures.value e in
    let w = within_map (λ v. v.items) (length c.args.imports.now) c.args.imports.now c.requires.within k b (subst (λ z. Contains (get_or z k []) b) c.in_ok-next.ensures d) in
    omega (arith, w, n, m, ap length c.in_ok-next.ensures, ap length c.deref.ensures.value)))

pub importers_of_each-requires-clause-count : goal.importers_of_each-requires-clause-count
importers_of_each-requires-clause-count c =
    let n = length-map c.in_ok-next.next.items (λ v. v.items) in
    let m = length-map c.args.imports.now (λ v. map (λ i. i.to) v.items) in
    omega (arith, n, m, ap length c.in_ok-next.ensures, ap length c.deref.ensures.value, c.requires.count)

pub ranks-requires-clause-paired : goal.ranks-requires-clause-paired
ranks-requires-clause-paired c = ap length c.deref-3.ensures.value ∙ c.in_ok-importers.ensures.len ∙ ap length c.deref.ensures.value ∙ sym (ap length c.deref-2.ensures.value)

pub ranks-requires-clause-count : goal.ranks-requires-clause-count
ranks-requires-clause-count c =
    let n = length-map c.in_ok-next.next.items (λ v. v.items) in
    let m = length-map c.args.imports.now (λ v. map (λ i. i.to) v.items) in
    omega (arith, n, m, ap length c.in_ok-next.ensures, ap length c.deref-2.ensures.value, c.requires.count)

pub ranks-requires-clause-within : goal.ranks-requires-clause-within
ranks-requires-clause-within c =
    all_within (λ v. v.items) (length c.deref-2.result.now) c.deref-3.result.now (λ k b e.
    (let n = length-map c.deref.result.now (λ v. v.items) in
    let d = subst (λ z. Contains (get_or (map (λ v. v.items) z) k []) b) c.deref-3.ensures.value e in
    let w = contains_within (map (λ v. v.items) c.deref.result.now) b k ((c.in_ok-importers.ensures.exact b k).1 d) in
    omega (arith, w, n, ap length c.deref.ensures.value, ap length c.deref-2.ensures.value)))

pub falls-requires-clause-len : goal.falls-requires-clause-len
falls-requires-clause-len c = ap length c.deref-5.ensures.value ∙ c.in_ok-ranks.ensures ∙ ap length c.deref-2.ensures.value ∙ sym (ap length c.deref-4.ensures.value)

pub falls-requires-clause-within : goal.falls-requires-clause-within
falls-requires-clause-within c =
    all_within (λ v. v.items) (length c.deref-4.result.now) c.deref-4.result.now (λ k b e.
    (let n = length-map c.in_ok-next.next.items (λ v. v.items) in
    let m = length-map c.args.imports.now (λ v. map (λ i. i.to) v.items) in
    let d = subst (λ z. Contains (get_or (map (λ v. v.items) z) k []) b) c.deref-4.ensures.value e in
    let w = within_map (λ v. v.items) (length c.args.imports.now) c.args.imports.now c.requires.within k b (subst (λ z. Contains (get_or z k []) b) c.in_ok-next.ensures d) in
    omega (arith, w, n, m, ap length c.in_ok-next.ensures, ap length c.deref-4.ensures.value)))

pub returns-then-falls : goal.returns-then-falls
returns-then-falls c =
    (let is = map (λ v. v.items) c.args.imports.now in
    let next = map (λ v. v.items) c.in_ok-next.next.items in
    let e = c.in_ok-next.ensures ∙ targets_twice (λ v. v.items) c.args.imports.now in
    let g = subst (λ z. IsGraph z (all_imports 0 is)) (sym e) (graph_of is) in
    let falls = subst (λ z. (a b : ℕ) → Contains (get_or (map (λ v. v.items) z) a []) b → get_or c.deref-5.result.now b 0 < get_or c.deref-5.result.now a 0) c.deref-4.ensures.value (c.falls.ensures c.if-falls.true) in
    (λ h. acyclic_by_ranks (λ k. get_or c.deref-5.result.now k 0) next (all_imports 0 is) g falls, λ acyclic. refl))

pub none_leads_back-requires-clause-count : goal.none_leads_back-requires-clause-count
none_leads_back-requires-clause-count c =
    let n = length-map c.in_ok-next.next.items (λ v. v.items) in
    let m = length-map c.args.imports.now (λ v. map (λ i. i.to) v.items) in
    omega (arith, n, m, ap length c.in_ok-next.ensures, ap length c.deref-6.ensures.value, c.requires.count)

pub none_leads_back-requires-clause-paired : goal.none_leads_back-requires-clause-paired
none_leads_back-requires-clause-paired c = ap length c.deref-7.ensures.value ∙ c.in_ok-importers.ensures.len ∙ ap length c.deref.ensures.value ∙ sym (ap length c.deref-6.ensures.value)

pub none_leads_back-requires-clause-within : goal.none_leads_back-requires-clause-within
none_leads_back-requires-clause-within c =
    all_within (λ v. v.items) (length c.deref-7.result.now) c.deref-7.result.now (λ k b e.
    (let n = length-map c.deref.result.now (λ v. v.items) in
    let d = subst (λ z. Contains (get_or (map (λ v. v.items) z) k []) b) c.deref-7.ensures.value e in
    let w = contains_within (map (λ v. v.items) c.deref.result.now) b k ((c.in_ok-importers.ensures.exact b k).1 d) in
    omega (arith, w, n, c.in_ok-importers.ensures.len, ap length c.deref-7.ensures.value)))

pub returns : goal.returns
returns c =
    let is = map (λ v. v.items) c.args.imports.now in
    let next = map (λ v. v.items) c.in_ok-next.next.items in
    let seen = map (λ v. v.items) c.deref-6.result.now in
    let back = map (λ v. v.items) c.deref-7.result.now in
    let same : seen ≡ next = ap (map (λ v. v.items)) c.deref-6.ensures.value in
    let e = c.in_ok-next.ensures ∙ targets_twice (λ v. v.items) c.args.imports.now in
    let g = subst (λ z. IsGraph z (all_imports 0 is)) (sym (same ∙ e)) (graph_of is) in
    let t = subst (λ z. AreTurned (map (λ v. v.items) z) back) (c.deref.ensures.value ∙ sym c.deref-6.ensures.value)
    (subst (λ z. AreTurned (map (λ v. v.items) c.deref.result.now) (map (λ v. v.items) z)) (sym c.deref-7.ensures.value) c.in_ok-importers.ensures.exact) in
    IfOk-weaker c.none_leads_back.result
    (λ b. (b ≡ true) ↔ NoneLeadsBack seen back)
    (λ b. (b ≡ true) ↔ IsAcyclic (all_imports 0 is))
    (λ b told. told_alike b (NoneLeadsBack seen back) (IsAcyclic (all_imports 0 is)) told (acyclic_by_walks seen back (all_imports 0 is) g (importers_of seen back (all_imports 0 is) g t)))
    c.none_leads_back.ensures
