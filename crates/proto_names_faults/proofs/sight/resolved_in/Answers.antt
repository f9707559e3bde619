use Rattle.std.proofs.Common.{◌≡◌, map, string_bytes, sym, ◌∙◌, ap, refl, take_all}
use Rattle.indexmap.specs.IndexMap.{get_by_text}
use Rattle.proto_names_rules.specs.Faults.{file_with_path, imports_of}
use Rattle.proto_names_imports.specs.Common.{asked_by, import_from}
use Rattle.proto_names_imports.specs.declared.import.FileImport.{FileImport}
use Rattle.proto_names_imports.proofs.Resolving.{resolve_some, resolve_none}
use Rattle.proto_names_faults.proofs.sight.resolved_in.Goals as goal
use Rattle.proto_names_faults.proofs.sight.resolved_in.Goals.{in-Some+in_ok-push, in_default}

pub loop-import-preserved : goal.loop-import-preserved
loop-import-preserved c = λ paths index file.
    (let asked : file_with_path paths (string_bytes c.import-item.result.path) ≡ c.place_of.result = sym (index (string_bytes c.import-item.result.path)) ∙ ap (get_by_text c.args.index.now) (sym c.as_str.ensures.value) ∙ sym c.place_of.ensures in
    elim c.match-place_of.branch [
      | in-Some+in_ok-push w ↦
          let new : FileImport = record { to = w.in-Some.to; is_public = c.import-item.result.is_public } in
          ap (λ v. map (import_from file) v.items) w.imports-is ∙ ap (map (import_from file)) w.in_ok-push.ensures.items
          ∙ resolve_some paths file c.args.written.now c.loop-import.import-index w.in-Some.to c.import-item.result c.loop-import.imports.items new c.loop-import-test.true c.import-item.is (c.loop-import.invariant paths index file) (asked ∙ w.in-Some.is) refl refl
      | in_default w ↦
          ap (λ v. map (import_from file) v.items) w.imports-is
          ∙ resolve_none paths file c.args.written.now c.loop-import.import-index c.import-item.result c.loop-import.imports.items c.loop-import-test.true c.import-item.is (c.loop-import.invariant paths index file) (asked ∙ w.in_default.is)
    ])

pub returns : goal.returns
returns c = λ paths index file. c.loop-import.invariant paths index file ∙ ap (λ ws. imports_of paths (map (asked_by file) ws)) (take_all c.loop-import.import-index c.args.written.now c.loop-import-test.false)
