-- A list with values at some places.
use Rattle.std.proofs.Common.{◌≡◌, ◌⊎◌, ℕ, suc, ◌<◌, List, [], ◌∷◌, length, get_or, map, slice_set, refl, sym, ◌∙◌, ap, inl, inr, arith, All, Contains, length-set, get_or-set_same, get_or-set_other}
use Rattle.std.proofs.lemmas.List.{map-set}
use Rattle.proto_base.proofs.Common.{All-head, All-set, All-tail, Vec, cases_eq, contains_cases}
use Rattle.proto_base.specs.Undone.{with_values}
use Rattle.proto_names_update.specs.RenewedNames.{rows_with}

pub all_with : {T : Type 0} (P : T → Type 0) (items : List T) (places : List ℕ) (values : List T) → All P items → All P values → All P (with_values items places values)
all_with P items [] values old new = old
all_with P items (place ∷ places) [] old new = old
all_with P items (place ∷ places) (v ∷ values) old new = all_with P (slice_set items place v) places values (All-set P items place v (All-head P v values new) old) (All-tail P v values new)

-- at a place stands what was put there last; and what stood there, where nothing was put
pub value_at : {T : Type 0} (items : List T) (places : List ℕ) (values : List T) (d : T) → length values ≡ length places → All (λ p. p < length items) places → (k : ℕ)
    → ((Contains places k → ⊥) × (get_or (with_values items places values) k d ≡ get_or items k d))
    ⊎ ((j : ℕ) × (j < length places) × (get_or places j 0 ≡ k) × (get_or (with_values items places values) k d ≡ get_or values j d))
value_at items [] values d paired within k = inl (λ c. absurd (omega (arith, c.1)), refl)
value_at items (place ∷ places) [] d paired within k = absurd (omega (arith, paired))
value_at items (place ∷ places) (v ∷ values) d paired within k =
    let count = length-set items place v in
    elim (value_at (slice_set items place v) places values d (omega (arith, paired)) (λ j x l. omega (arith, within (suc j) x (omega (arith, l)), count)) k) [
      | inr later ↦ inr (suc later.0, omega (arith, later.1), later.2, later.3)
      | inl apart ↦ elim (cases_eq k place) [
        | inl same ↦ inr (0, omega arith, sym same, apart.1 ∙ ap (λ m. get_or (slice_set items place v) m d) same ∙ get_or-set_same items place v d (within 0 0 (omega arith)))
        | inr ne ↦ inl (
          λ c. elim (contains_cases place k places c) [
            | inl same ↦ ne (sym same)
            | inr there ↦ apart.0 there
          ],
          apart.1 ∙ get_or-set_other items place k v d ne,
        )
      ]
    ]

-- so it is with the rows of files
pub rows_with_values : (rows : List (Vec ℕ)) (places : List ℕ) (renewed : List (Vec ℕ)) → map (λ v. v.items) (with_values rows places renewed) ≡ rows_with (map (λ v. v.items) rows) places (map (λ v. v.items) renewed)
rows_with_values rows [] renewed = refl
rows_with_values rows (place ∷ places) [] = refl
rows_with_values rows (place ∷ places) (v ∷ renewed) =
    rows_with_values (slice_set rows place v) places renewed
    ∙ ap (λ (xs : List (List ℕ)). rows_with xs places (map (λ (v : Vec ℕ). v.items) renewed)) (map-set (λ (v : Vec ℕ). v.items) rows place v)
