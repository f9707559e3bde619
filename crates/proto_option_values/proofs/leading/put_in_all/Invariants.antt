use Rattle.std.proofs.Common.{◌≡◌, ◌⊎◌, ◌↔◌, ℕ, [], length, get_or, map, take, Contains}
use Rattle.proto_option_values.proofs.leading.put_in_all.Given as goal

abbrev pub invariant-loop-place : goal.invariant-loop-place
invariant-loop-place l = record {
  len : length l.lists.items ≡ length l.initial.lists.items;
  exact : (place one : ℕ) → Contains (get_or (map (λ v. v.items) l.lists.items) place []) one ↔ (Contains (get_or (map (λ v. v.items) l.initial.lists.items) place []) one ⊎ (Contains (take l.place-index l.places) place × (one ≡ l.file)));
}
