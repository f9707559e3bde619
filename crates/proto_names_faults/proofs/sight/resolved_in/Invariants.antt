use Rattle.std.proofs.Common.{◌≡◌, ℕ, List, map, take}
use Rattle.proto_names_rules.specs.Faults.{imports_of}
use Rattle.proto_names_imports.specs.Common.{asked_by, import_from, IsFileIndex}
use Rattle.proto_names_faults.proofs.sight.resolved_in.Given as goal

abbrev pub invariant-loop-import : goal.invariant-loop-import
invariant-loop-import l = (paths : List (List ℕ)) → IsFileIndex l.index paths → (file : ℕ) → map (import_from file) l.imports.items ≡ imports_of paths (map (asked_by file) (take l.import-index l.written))
