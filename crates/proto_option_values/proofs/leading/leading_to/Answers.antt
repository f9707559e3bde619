use Rattle.std.proofs.Common.{◌≡◌, ◌↔◌, ℕ, [], get_or, length, map, sym, ◌∙◌, ap, subst, arith, Contains}
use Rattle.proto_base.proofs.Common.{IfOk-weaker, length-map}
use Rattle.proto_names_rules.specs.Cycles.{Leads}
use Rattle.proto_names_imports.proofs.ImportGraph.{IsGraph, all_within, graph_of, targets_twice, within_map}
use Rattle.proto_names_imports.proofs.Turned.{contains_within}
use Rattle.proto_names_imports.specs.ImportSteps.{AreTurned}
use Rattle.proto_names_imports.specs.Importing.{all_imports}
use Rattle.proto_names_imports.specs.Walks.{IsMarked, Walks}
use Rattle.proto_option_values.proofs.ImportsBack.{marks_leading}
use Rattle.proto_option_values.proofs.leading.leading_to.Goals as goal

pub importers-requires-clause-within : goal.importers-requires-clause-within
importers-requires-clause-within c =
    all_within (λ v. v.items) (length c.deref.result.now) c.deref.result.now (λ k b e.
    (let n = length-map c.in_ok-next.next.items (λ v. v.items) in
    let m = length-map c.args.imports.now (λ v. map (λ i. i.to) v.items) in
    let d = subst (λ z. Contains (get_or (map (λ v. v.items) z) k []) b) c.deref.ensures.value e in
    let w = within_map (λ v. v.items) (length c.args.imports.now) c.args.imports.now c.requires.within k b (subst (λ z. Contains (get_or z k []) b) c.in_ok-next.ensures d) in
    omega (arith, w, n, m, ap length c.in_ok-next.ensures, ap length c.deref.ensures.value)))

pub importers-requires-clause-count : goal.importers-requires-clause-count
importers-requires-clause-count c =
    let n = length-map c.in_ok-next.next.items (λ v. v.items) in
    let m = length-map c.args.imports.now (λ v. map (λ i. i.to) v.items) in
    omega (arith, n, m, ap length c.in_ok-next.ensures, ap length c.deref.ensures.value, c.requires.count)

pub reached_files-requires-clause-start : goal.reached_files-requires-clause-start
reached_files-requires-clause-start c =
    let n = length-map c.in_ok-next.next.items (λ v. v.items) in
    let m = length-map c.args.imports.now (λ v. map (λ i. i.to) v.items) in
    omega (arith, n, m, ap length c.in_ok-next.ensures, ap length c.deref.ensures.value, c.in_ok-back.ensures.len, ap length c.deref-2.ensures.value, c.requires.file)

pub reached_files-requires-clause-files : goal.reached_files-requires-clause-files
reached_files-requires-clause-files c =
    all_within (λ v. v.items) (length c.deref-2.result.now) c.deref-2.result.now (λ k b e.
    (let n = length-map c.deref.result.now (λ v. v.items) in
    let d = subst (λ z. Contains (get_or (map (λ v. v.items) z) k []) b) c.deref-2.ensures.value e in
    let w = contains_within (map (λ v. v.items) c.deref.result.now) b k ((c.in_ok-back.ensures.exact b k).1 d) in
    omega (arith, w, n, c.in_ok-back.ensures.len, ap length c.deref-2.ensures.value)))

pub returns : goal.returns
returns c =
    let is = map (λ v. v.items) c.args.imports.now in
    let next = map (λ v. v.items) c.deref.result.now in
    let back = map (λ v. v.items) c.deref-2.result.now in
    let e : next ≡ map (map (λ i. i.to)) is = ap (map (λ v. v.items)) c.deref.ensures.value ∙ c.in_ok-next.ensures ∙ targets_twice (λ v. v.items) c.args.imports.now in
    let graph = subst (λ z. IsGraph z (all_imports 0 is)) (sym e) (graph_of is) in
    let turned = subst (λ z. AreTurned next (map (λ v. v.items) z)) (sym c.deref-2.ensures.value) c.in_ok-back.ensures.exact in
    IfOk-weaker c.reached_files.result
    (λ seen. (g : ℕ) → IsMarked seen g ↔ Walks back c.args.file g)
    (λ seen. (from : ℕ) → IsMarked seen from ↔ Leads (all_imports 0 is) from c.args.file)
    (λ seen marks. marks_leading next back (all_imports 0 is) graph turned c.args.file seen marks)
    c.reached_files.ensures.exact
