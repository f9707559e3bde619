use Rattle.std.proofs.Common.{◌≡◌, true, Some, None, length, get_or, map, nat_eq, string_bytes, refl, sym, ◌∙◌, ap, subst, arith, eq-eqb, take_all}
use Rattle.proto_base.proofs.Common.{contains, cond-true, get_or_default}
use Rattle.proto_files.specs.GivenFiles.{paths_of}
use Rattle.proto_names_rules.proofs.Common.{fault, IsLeast, at, file_with_path, imports_of}
use Rattle.proto_names_imports.specs.Common.{asked_by, import_from, PathFault, FileImport}
use Rattle.proto_names_imports.proofs.FoundImports.{found_within, kept, not_false, not_true, only}
use Rattle.proto_names_imports.proofs.PathFaults.{IsFresh, fresh_more, path_none, path_unknown, path_double}
use Rattle.proto_names_imports.proofs.Resolving.{resolve_some}
use Rattle.proto_names_imports.proofs.one_file.resolve_imports_of.Goals as goal

pub returns-in-None-clause-fault : goal.returns-in-None-clause-fault
returns-in-None-clause-fault c =
    let paths = paths_of c.args.files.now in
    let look : file_with_path paths (string_bytes (get_or c.args.written.now c.loop-import.import-index c.import-item.result).path) ≡ None =
    ap (λ w. file_with_path paths (string_bytes w.path)) (sym c.import-item.is) ∙ ap (file_with_path paths) (sym c.as_str.ensures.value) ∙ sym c.place_of_path.ensures ∙ c.in-None.is in
    subst (λ w. IsLeast (PathFault paths (map (asked_by c.args.file) c.args.written.now)) (fault (at c.args.file w.token) 10)) (sym c.import-item.is)
    (path_unknown (λ w. file_with_path paths (string_bytes w.path)) (contains nat_eq c.loop-import.named) paths c.args.file c.args.written.now c.loop-import.import-index c.import-item.result (λ w. refl) c.requires c.loop-import.invariant.fresh c.loop-import-test.true look)

pub returns-then-not-branch-clause-fault : goal.returns-then-not-branch-clause-fault
returns-then-not-branch-clause-fault c =
    let paths = paths_of c.args.files.now in
    let look : file_with_path paths (string_bytes (get_or c.args.written.now c.loop-import.import-index c.import-item.result).path) ≡ Some c.in-Some.to =
    ap (λ w. file_with_path paths (string_bytes w.path)) (sym c.import-item.is) ∙ ap (file_with_path paths) (sym c.as_str.ensures.value) ∙ sym c.place_of_path.ensures ∙ c.in-Some.is in
    let again : contains nat_eq c.loop-import.named c.in-Some.to ≡ true = not_false _ _ c.in_ok-insert-in-Some.ensures.added c.if-not-branch.true in
    subst (λ w. IsLeast (PathFault paths (map (asked_by c.args.file) c.args.written.now)) (fault (at c.args.file w.token) 11)) (sym c.import-item.is)
    (path_double (λ w. file_with_path paths (string_bytes w.path)) (contains nat_eq c.loop-import.named) paths c.args.file c.args.written.now c.loop-import.import-index c.in-Some.to c.import-item.result (λ w. refl) c.requires c.loop-import.invariant.fresh c.loop-import-test.true look again)

pub loop-import-preserved : goal.loop-import-preserved
loop-import-preserved c =
    let paths = paths_of c.args.files.now in
    let h = c.in_ok-insert-in-Some.ensures.updates in
    let asked : file_with_path paths (string_bytes c.import-item.result.path) ≡ Some c.in-Some.to = ap (file_with_path paths) (sym c.as_str.ensures.value) ∙ sym c.place_of_path.ensures ∙ c.in-Some.is in
    let new : FileImport = record { to = c.in-Some.to; is_public = c.import-item.result.is_public } in
    record {
      fresh =
          fresh_more (λ w. file_with_path paths (string_bytes w.path)) (contains nat_eq c.loop-import.named) (contains nat_eq c.insert.new.self) c.args.written.now c.loop-import.import-index c.in-Some.to c.loop-import.invariant.fresh
          (λ d. ap (λ w. file_with_path paths (string_bytes w.path)) (get_or_default c.args.written.now c.loop-import.import-index d c.import-item.result c.loop-import-test.true ∙ sym c.import-item.is) ∙ asked)
          (not_true _ _ c.in_ok-insert-in-Some.ensures.added c.if-not-branch.false)
          (λ q old. kept _ _ _ (h.0 q) old)
          (h.0 c.in-Some.to ∙ cond-true (nat_eq c.in-Some.to c.in-Some.to) true _ (eq-eqb c.in-Some.to c.in-Some.to refl))
          (λ q new. only c.in-Some.to q _ _ (h.0 q) new);
      found =
          ap (map (import_from c.args.file)) c.in_ok-push-in-Some.ensures.items
          ∙ resolve_some paths c.args.file c.args.written.now c.loop-import.import-index c.in-Some.to c.import-item.result c.loop-import.imports.items new c.loop-import-test.true c.import-item.is c.loop-import.invariant.found asked refl refl;
    }

pub returns-clause-clean : goal.returns-clause-clean
returns-clause-clean c = λ f p.
    (let paths = paths_of c.args.files.now in
    let e : c.loop-import.import-index ≡ length c.args.written.now = omega (arith, c.loop-import-test.false, c.loop-import.auto.import-index-end) in
    path_none (λ w. file_with_path paths (string_bytes w.path)) (contains nat_eq c.loop-import.named) paths c.args.file c.args.written.now (λ w. refl)
    (subst (IsFresh (λ w. file_with_path paths (string_bytes w.path)) (contains nat_eq c.loop-import.named) c.args.written.now) e c.loop-import.invariant.fresh) f p)

pub returns-clause-imports : goal.returns-clause-imports
returns-clause-imports c = c.loop-import.invariant.found ∙ ap (λ ws. imports_of (paths_of c.args.files.now) (map (asked_by c.args.file) ws)) (take_all c.loop-import.import-index c.args.written.now c.loop-import-test.false)

pub returns-clause-within : goal.returns-clause-within
returns-clause-within c = found_within c.args.files.now c.args.file c.loop-import.imports.items _ c.loop-import.invariant.found
