-- Names that rise: a binary search finds a name where it is one of them.
use Rattle.std.proofs.Common.{◌≡◌, ℕ, ◌<◌, true, false, List, [], ◌∷◌, length, get_or, map, Ordering, inl, inr, sym, ap, ◌∙◌, arith, IsSortedBy, nat_cmp, is_lt, is_eq, bytes_eq}
use Rattle.proto_base.proofs.Common.{IsNonDecreasingBy, IsPartitionPoint, Less, Equal, Greater, any_map, cases_lt, is_eq-slice_cmp, list_any_at, list_any_none, nat_list_cmp_total, nat_list_eq_equiv, ordering_index, searchable_from_sorted, slice_cmp}
use Rattle.std.specs.List.{HoldsAt}
use Rattle.proto_ast.specs.Options.{is_one_of}

compares : (s t : List ℕ) (o : Ordering) → slice_cmp nat_cmp s t ≡ o → bytes_eq t s ≡ is_eq o
compares s t o e = (nat_list_eq_equiv).symm t s ∙ sym (is_eq-slice_cmp s t) ∙ ap is_eq e

-- where f gives an element's name
pub found_is_one : {X : Type 0} (f : X → List ℕ) (name : List ℕ) (xs : List X) (i : ℕ) → i < length xs → HoldsAt (λ y. slice_cmp nat_cmp (f y) name ≡ Equal) xs i → is_one_of (map f xs) name ≡ true
found_is_one f name [] i lt there = absurd (omega (arith, lt))
found_is_one f name (x ∷ xs) i lt there =
    any_map (bytes_eq name) f (x ∷ xs)
    ∙ list_any_at (λ y. bytes_eq name (f y)) (x ∷ xs) i x lt (compares (f (get_or (x ∷ xs) i x)) name Equal (there x))

pub missed_is_none : {X : Type 0} (f : X → List ℕ) (name : List ℕ) (xs : List X) (i : ℕ) → IsSortedBy (λ x y. is_lt (slice_cmp nat_cmp (f x) (f y))) xs
    → (IsNonDecreasingBy (λ y. ordering_index (slice_cmp nat_cmp (f y) name)) xs → IsPartitionPoint (λ y. slice_cmp nat_cmp (f y) name ≡ Less) (λ y. slice_cmp nat_cmp (f y) name ≡ Greater) xs i)
    → is_one_of (map f xs) name ≡ false
missed_is_none f name xs i sorted parts =
    let point = parts (searchable_from_sorted nat_list_cmp_total f xs name sorted) in
    any_map (bytes_eq name) f xs
    ∙ list_any_none (λ y. bytes_eq name (f y)) xs (λ k d lt. elim (cases_lt k i) [
      | inl before ↦ compares (f (get_or xs k d)) name Less (point.0 k d (omega arith) before)
      | inr after ↦ compares (f (get_or xs k d)) name Greater (point.1 k d after lt)
    ])
