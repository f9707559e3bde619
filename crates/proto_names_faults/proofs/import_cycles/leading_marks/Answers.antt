use Rattle.std.proofs.Common.{◌≡◌, ◌<◌, [], length, get_or, map, sym, ◌∙◌, ap, subst, arith, Contains}
use Rattle.proto_base.proofs.Common.{IfOk-weaker, length-map}
use Rattle.proto_names_rules.proofs.Common.{Import}
use Rattle.proto_names_imports.proofs.Common.{all_imports, imports_within}
use Rattle.proto_names_imports.proofs.ImportGraph.{IsGraph, all_within, graph_of, targets_twice, within_map}
use Rattle.proto_names_faults.proofs.CycleFaults.{reached_cycles}
use Rattle.proto_names_faults.proofs.import_cycles.leading_marks.Goals as goal

pub all_reached-requires-clause-count : goal.all_reached-requires-clause-count
all_reached-requires-clause-count c =
    let n = length-map c.in_ok-next.next.items (λ v. v.items) in
    let m = length-map c.args.imports.now (λ v. map (λ i. i.to) v.items) in
    omega (arith, n, m, ap length c.in_ok-next.ensures, ap length c.deref.ensures.value, c.requires.count)

pub all_reached-requires-clause-within : goal.all_reached-requires-clause-within
all_reached-requires-clause-within c =
    all_within (λ v. v.items) (length c.deref.result.now) c.deref.result.now (λ k b e.
    (let n = length-map c.in_ok-next.next.items (λ v. v.items) in
    let m = length-map c.args.imports.now (λ v. map (λ i. i.to) v.items) in
    let d = subst (λ z. Contains (get_or (map (λ v. v.items) z) k []) b) c.deref.ensures.value e in
    let w = within_map (λ v. v.items) (length c.args.imports.now) c.args.imports.now c.requires.within k b (subst (λ z. Contains (get_or z k []) b) c.in_ok-next.ensures d) in
    omega (arith, w, n, m, ap length c.in_ok-next.ensures, ap length c.deref.ensures.value)))

pub returns : goal.returns
returns c =
    let is = map (λ v. v.items) c.args.imports.now in
    let next = map (λ v. v.items) c.deref.result.now in
    let e = ap (map (λ v. v.items)) c.deref.ensures.value ∙ c.in_ok-next.ensures ∙ targets_twice (λ v. v.items) c.args.imports.now in
    let graph = subst (λ z. IsGraph z (all_imports 0 is)) (sym e) (graph_of is) in
    let n : length next ≡ length c.args.imports.now = ap length e ∙ length-map is (map (λ i. i.to)) ∙ length-map c.args.imports.now (λ v. v.items) in
    let m : length next ≡ length c.deref.result.now = length-map c.deref.result.now (λ v. v.items) in
    let within = λ (i : Import) (d : Contains (all_imports 0 is) i). (let r = imports_within (λ v. v.items) (length c.args.imports.now) c.args.imports.now c.requires.within i d in let o : i.to < length next = omega (arith, r, n) in o) in
    IfOk-weaker c.all_reached.result _ _
    (λ marks exact. reached_cycles next (all_imports 0 is) marks.items graph within (λ from to l. exact from to (omega (arith, l, m))))
    c.all_reached.ensures
