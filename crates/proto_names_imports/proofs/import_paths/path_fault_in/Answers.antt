use Rattle.std.proofs.Common.{◌≡◌, true, Some, None, length, get_or, map, nat_eq, string_bytes, refl, sym, ◌∙◌, ap, subst, arith, eq-eqb}
use Rattle.proto_base.proofs.Common.{contains, cond-true, get_or_default}
use Rattle.indexmap.specs.IndexMap.{get_by_text}
use Rattle.proto_names_rules.proofs.Common.{fault, IsLeast, at}
use Rattle.proto_names_imports.specs.Common.{asked_by, PathFault}
use Rattle.proto_names_imports.proofs.FoundImports.{kept, not_false, not_true, only}
use Rattle.proto_names_imports.proofs.PathFaults.{IsFresh, fresh_more, path_none, path_unknown, path_double}
use Rattle.proto_names_imports.proofs.import_paths.path_fault_in.Goals as goal

pub returns-in-None : goal.returns-in-None
returns-in-None c = λ paths index. (
    let look : get_by_text c.args.index.now (string_bytes (get_or c.args.written.now c.loop-import.import-index c.import-item.result).path) ≡ None =
    ap (λ w. get_by_text c.args.index.now (string_bytes w.path)) (sym c.import-item.is) ∙ ap (get_by_text c.args.index.now) (sym c.as_str.ensures.value) ∙ sym c.place_of.ensures ∙ c.in-None.is in
    subst (λ w. IsLeast (PathFault paths (map (asked_by c.args.file) c.args.written.now)) (fault (at c.args.file w.token) 10)) (sym c.import-item.is)
    (path_unknown (λ w. get_by_text c.args.index.now (string_bytes w.path)) (contains nat_eq c.loop-import.named) paths c.args.file c.args.written.now c.loop-import.import-index c.import-item.result (λ w. index (string_bytes w.path)) c.requires c.loop-import.invariant c.loop-import-test.true look))

pub returns-then-not-branch : goal.returns-then-not-branch
returns-then-not-branch c = λ paths index. (
    let look : get_by_text c.args.index.now (string_bytes (get_or c.args.written.now c.loop-import.import-index c.import-item.result).path) ≡ Some c.in-Some.to =
    ap (λ w. get_by_text c.args.index.now (string_bytes w.path)) (sym c.import-item.is) ∙ ap (get_by_text c.args.index.now) (sym c.as_str.ensures.value) ∙ sym c.place_of.ensures ∙ c.in-Some.is in
    let again : contains nat_eq c.loop-import.named c.in-Some.to ≡ true = not_false _ _ c.in_ok-insert-in-Some.ensures.added c.if-not-branch.true in
    subst (λ w. IsLeast (PathFault paths (map (asked_by c.args.file) c.args.written.now)) (fault (at c.args.file w.token) 11)) (sym c.import-item.is)
    (path_double (λ w. get_by_text c.args.index.now (string_bytes w.path)) (contains nat_eq c.loop-import.named) paths c.args.file c.args.written.now c.loop-import.import-index c.in-Some.to c.import-item.result (λ w. index (string_bytes w.path)) c.requires c.loop-import.invariant c.loop-import-test.true look again))

pub loop-import-preserved : goal.loop-import-preserved
loop-import-preserved c =
    let h = c.in_ok-insert-in-Some.ensures.updates in
    let look : get_by_text c.args.index.now (string_bytes (get_or c.args.written.now c.loop-import.import-index c.import-item.result).path) ≡ Some c.in-Some.to =
    ap (λ w. get_by_text c.args.index.now (string_bytes w.path)) (sym c.import-item.is) ∙ ap (get_by_text c.args.index.now) (sym c.as_str.ensures.value) ∙ sym c.place_of.ensures ∙ c.in-Some.is in
    fresh_more (λ w. get_by_text c.args.index.now (string_bytes w.path)) (contains nat_eq c.loop-import.named) (contains nat_eq c.insert.new.self) c.args.written.now c.loop-import.import-index c.in-Some.to c.loop-import.invariant
    (λ d. ap (λ w. get_by_text c.args.index.now (string_bytes w.path)) (get_or_default c.args.written.now c.loop-import.import-index d c.import-item.result c.loop-import-test.true) ∙ look)
    (not_true _ _ c.in_ok-insert-in-Some.ensures.added c.if-not-branch.false)
    (λ q old. kept _ _ _ (h.0 q) old)
    (h.0 c.in-Some.to ∙ cond-true (nat_eq c.in-Some.to c.in-Some.to) true _ (eq-eqb c.in-Some.to c.in-Some.to refl))
    (λ q new. only c.in-Some.to q _ _ (h.0 q) new)

pub returns : goal.returns
returns c = λ paths index f p.
    (let e : c.loop-import.import-index ≡ length c.args.written.now = omega (arith, c.loop-import-test.false, c.loop-import.auto.import-index-end) in
    path_none (λ w. get_by_text c.args.index.now (string_bytes w.path)) (contains nat_eq c.loop-import.named) paths c.args.file c.args.written.now (λ w. index (string_bytes w.path))
    (subst (IsFresh (λ w. get_by_text c.args.index.now (string_bytes w.path)) (contains nat_eq c.loop-import.named) c.args.written.now) e c.loop-import.invariant) f p)
