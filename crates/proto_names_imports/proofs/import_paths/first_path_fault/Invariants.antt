use Rattle.std.proofs.Common.{ℕ, ◌<◌, List, map}
use Rattle.proto_names_rules.specs.Faults.{Fault}
use Rattle.proto_names_imports.specs.Common.{all_asked, IsFileIndex, PathFault}
use Rattle.proto_names_imports.proofs.import_paths.first_path_fault.Given as goal

abbrev pub invariant-loop-file : goal.invariant-loop-file
invariant-loop-file l = (paths : List (List ℕ)) → IsFileIndex l.index paths → (f : Fault) → PathFault paths (all_asked 0 (map (λ v. v.items) l.files)) f → f.place.file < l.file → ⊥
