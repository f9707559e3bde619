use Rattle.std.proofs.Common.{◌≡◌, ◌↔◌, ℕ, ◌<◌, [], length, get_or, map, Contains}
use Rattle.proto_option_values.proofs.leading.importers.Given as goal

abbrev pub invariant-loop-file : goal.invariant-loop-file
invariant-loop-file l = record {
  len : length l.back.items ≡ length l.next;
  exact : (a b : ℕ) → Contains (get_or (map (λ v. v.items) l.back.items) b []) a ↔ ((a < l.file) × Contains (get_or (map (λ v. v.items) l.next) a []) b);
}
