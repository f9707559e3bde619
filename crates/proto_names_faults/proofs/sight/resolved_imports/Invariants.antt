use Rattle.std.proofs.Common.{◌≡◌, ℕ, List, length, map, take}
use Rattle.proto_names_rules.specs.Faults.{imports_of}
use Rattle.proto_names_imports.specs.Common.{all_asked, all_imports, IsFileIndex}
use Rattle.proto_names_faults.proofs.sight.resolved_imports.Given as goal

abbrev pub invariant-loop-written : goal.invariant-loop-written
invariant-loop-written l = record {
  len : length l.imports.items ≡ l.written-index;
  exact : (paths : List (List ℕ)) → IsFileIndex l.index paths → all_imports 0 (map (λ v. v.items) l.imports.items) ≡ imports_of paths (all_asked 0 (take l.written-index (map (λ v. v.items) l.files)));
}
