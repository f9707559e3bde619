use Rattle.std.proofs.Common.{◌≡◌, [], ◌∷◌, map, sym, ◌∙◌, ap, subst, arith}
use Rattle.std.proofs.lemmas.List.{get_or-map, length-map, map-append}
use Rattle.proto_names_rules.specs.Faults.{imports_of}
use Rattle.proto_names_imports.specs.Importing.{asked_by, import_from, all_imports}
use Rattle.proto_names_imports.proofs.Resolving.{resolve_file}
use Rattle.proto_names_faults.proofs.sight.resolved_imports.Goals as goal

pub loop-written-preserved : goal.loop-written-preserved
loop-written-preserved c =
    let e = c.deref.ensures.value ∙ ap (λ v. v.items) c.written-item.is ∙ sym (get_or-map (λ v. v.items) c.args.files.now c.loop-written.written-index c.written-item.result [] c.loop-written-test.true) in
    record {
      len = omega (arith, c.loop-written.invariant.len, c.in_ok-push.ensures.len, c.loop-written.imports.ok.0, c.push.new.self.ok.0);
      exact = λ paths index.
          (ap (λ z. all_imports 0 (map (λ v. v.items) z)) c.in_ok-push.ensures.items
          ∙ ap (all_imports 0) (map-append (λ v. v.items) c.loop-written.imports.items (c.in_ok-resolved_in.field-0 ∷ []))
          ∙ resolve_file paths (map (λ v. v.items) c.args.files.now) (map (λ v. v.items) c.loop-written.imports.items) c.loop-written.written-index c.in_ok-resolved_in.field-0.items
          (length-map c.loop-written.imports.items (λ v. v.items) ∙ c.loop-written.invariant.len) (omega (arith, c.loop-written-test.true, length-map c.args.files.now (λ v. v.items)))
          (c.loop-written.invariant.exact paths index)
          (λ file. subst (λ ws. map (import_from file) c.in_ok-resolved_in.field-0.items ≡ imports_of paths (map (asked_by file) ws)) e (c.in_ok-resolved_in.ensures paths index file)));
    }
