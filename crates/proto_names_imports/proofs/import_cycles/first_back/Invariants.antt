use Rattle.std.proofs.Common.{ℕ, ◌<◌, List, map}
use Rattle.proto_names_rules.specs.Faults.{Fault, imports_of}
use Rattle.proto_names_imports.specs.Common.{all_asked, AreImporters, CycleFault, IsFileIndex}
use Rattle.proto_names_imports.proofs.import_cycles.first_back.Given as goal

abbrev pub invariant-loop-file : goal.invariant-loop-file
invariant-loop-file l = (paths : List (List ℕ)) → IsFileIndex l.index paths → AreImporters (map (λ v. v.items) l.importers) (imports_of paths (all_asked 0 (map (λ v. v.items) l.files)))
    → (f : Fault) → CycleFault paths (all_asked 0 (map (λ v. v.items) l.files)) f → f.place.file < l.file → ⊥
