use Rattle.std.proofs.Common.{◌≡◌, ℕ, [], length, get_or, map, take}
use Rattle.proto_names.specs.Linking.{all_meant, references_to}
use Rattle.proto_names.proofs.backlinks.references_by_name.Given as goal

abbrev pub invariant-loop-file : goal.invariant-loop-file
invariant-loop-file l = record {
  len : length l.references.items ≡ l.count;
  each : (row : ℕ) → get_or (map (λ v. v.items) l.references.items) row [] ≡ references_to row (all_meant 0 (take l.file (map (λ v. v.items) l.meant)));
}
