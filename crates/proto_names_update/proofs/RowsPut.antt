-- Rows of files, of which some are others, and what stands in one of some lists.
use Rattle.std.proofs.Common.{◌≡◌, ℕ, zero, suc, ◌<◌, List, [], ◌∷◌, length, get_or, refl, sym, ◌∙◌, ap, inl, inr, arith, slice_set, subst, flat_map, map, All, AllPairs, Contains}
use Rattle.std.proofs.lemmas.List.{get_or-set_other, get_or-set_same, length-set}
use Rattle.proto_base.proofs.Common.{All-contains, contains_cases, contains_head, contains_later}
pub use Rattle.proto_base.proofs.Common.{from_flat_map, to_flat_map}
use Rattle.proto_names_update.specs.RenewedNames.{rows_with}
use Rattle.proto_names_update.proofs.FilesDeclare.{pairs_left, pairs_right}
use Rattle.proto_names_update.proofs.Places.{contains_or_not}

-- ---- lists one behind the other

pub flat_pairs : {X Y : Type 0} (R : Y → Y → Type 0) (f : X → List Y) (xs : List X) (x : X) → AllPairs R (flat_map f xs) → Contains xs x → AllPairs R (f x)
flat_pairs R f [] x h c = absurd (omega (arith, c.1))
flat_pairs R f (z ∷ xs) x h c = elim (contains_cases z x xs c) [
  | inl e ↦ subst (λ w. AllPairs R (f w)) e (pairs_left R (f z) (flat_map f xs) h)
  | inr d ↦ flat_pairs R f xs x (pairs_right R (f z) (flat_map f xs) h) d
]

-- what is in one of the lists of some values
pub inside_all : {V : Type 0} (items : V → List ℕ) (n : ℕ) (vs : List V) → All (λ v. All (λ r. r < n) (items v)) vs → (k row : ℕ) → Contains (get_or (map items vs) k []) row → row < n
inside_all items n [] h k row c = absurd (omega (arith, c.1))
inside_all items n (v ∷ vs) h zero row c = All-contains (λ r. r < n) (items v) row (h 0 v (omega arith)) c
inside_all items n (v ∷ vs) h (suc k) row c = inside_all items n vs (λ j d l. h (suc j) d (omega (arith, l))) k row c

-- ---- rows with others at some places

pub rows_else : (rows : List (List ℕ)) (places : List ℕ) (renewed : List (List ℕ)) (p : ℕ) → (Contains places p → ⊥) → get_or (rows_with rows places renewed) p [] ≡ get_or rows p []
rows_else rows [] renewed p out = refl
rows_else rows (q ∷ places) [] p out = refl
rows_else rows (q ∷ places) (own ∷ renewed) p out =
    rows_else (slice_set rows q own) places renewed p (λ c. out (contains_later q p places c))
    ∙ get_or-set_other rows q p own [] (λ e. out (subst (Contains (q ∷ places)) (sym e) (contains_head q places)))

-- where a file has another list
pub record IsPutAt (rows : List (List ℕ)) (places : List ℕ) (renewed : List (List ℕ)) (p : ℕ) : Type 0 where
  pub at : ℕ
  pub within : at < length places
  pub place : get_or places at 0 ≡ p
  pub own : get_or (rows_with rows places renewed) p [] ≡ get_or renewed at []

pub rows_put : (rows : List (List ℕ)) (places : List ℕ) (renewed : List (List ℕ)) (p : ℕ) → length renewed ≡ length places → p < length rows → Contains places p → IsPutAt rows places renewed p
rows_put rows [] renewed p e l c = absurd (omega (arith, c.1))
rows_put rows (q ∷ places) [] p e l c = absurd (omega (arith, e))
rows_put rows (q ∷ places) (own ∷ renewed) p e l c = elim (contains_or_not places p) [
  | inl again ↦
      let r = rows_put (slice_set rows q own) places renewed p (omega (arith, e)) (omega (arith, l, length-set rows q own)) again in
      record { at = suc r.at; within = omega (arith, r.within); place = r.place; own = r.own }
  | inr out ↦ elim (contains_cases q p places c) [
    | inl same ↦
        record {
          at = 0;
          within = omega arith;
          place = same;
          own = rows_else (slice_set rows q own) places renewed p out ∙ ap (λ i. get_or (slice_set rows q own) i []) (sym same) ∙ get_or-set_same rows q own [] (subst (λ i. i < length rows) (sym same) l);
        }
    | inr later ↦ absurd (out later)
  ]
]
