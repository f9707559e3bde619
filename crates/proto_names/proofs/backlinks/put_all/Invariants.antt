use Rattle.std.proofs.Common.{◌≡◌, ℕ, [], ◌++◌, length, get_or, map, take}
use Rattle.proto_names.specs.Linking.{meant_in_file, references_to}
use Rattle.proto_names.proofs.backlinks.put_all.Given as goal

abbrev pub invariant-loop-one : goal.invariant-loop-one
invariant-loop-one l = record {
  len : length l.references.items ≡ length l.initial.references.items;
  each : (row : ℕ) → get_or (map (λ v. v.items) l.references.items) row [] ≡ get_or (map (λ v. v.items) l.initial.references.items) row [] ++ references_to row (map (meant_in_file l.file) (take l.one-index l.meant));
}
