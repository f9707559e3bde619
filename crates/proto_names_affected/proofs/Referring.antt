-- The references to a name, file after file: they rise, and of each file all are marked or none is.
use Rattle.std.proofs.Common.{◌≡◌, ℕ, zero, suc, ◌+◌, ◌≤◌, ◌==◌, Bool, true, false, not, List, [], ◌∷◌, ◌++◌, length, map, get_or, refl, sym, ◌∙◌, ap, inl, inr, arith, cond, if◌then◌else◌, subst, All, filter}
use Rattle.proto_base.proofs.Common.{cases_Bool, filter-append, map-append}
use Rattle.proto_names_table.specs.declared.ids.RefId.{RefId}
use Rattle.proto_names_affected.specs.Merged.{ReferencesAreRising, is_of_marked_file}
use Rattle.proto_names_affected.specs.Referred.{IsOfFile, MarkedAreGathered, MeantRow, UnmarkedReferencesStay, ReferencesRise, all_meant_by, gathered, references_to_row}

all_cons : {X : Type 0} (P : X → Type 0) (x : X) (xs : List X) → P x → All P xs → All P (x ∷ xs)
all_cons P x xs p h zero d l = p
all_cons P x xs p h (suc k) d l = h k d (omega (arith, l))

pairs_cons : (x : RefId) (xs : List RefId) → All (λ r. x.file ≤ r.file) xs → ReferencesAreRising xs → ReferencesAreRising (x ∷ xs)
pairs_cons x xs h rest zero zero d b l = absurd (omega (arith, b))
pairs_cons x xs h rest zero (suc j) d b l = h j d (omega (arith, l))
pairs_cons x xs h rest (suc i) zero d b l = absurd (omega (arith, b))
pairs_cons x xs h rest (suc i) (suc j) d b l = rest i j d (omega (arith, b)) (omega (arith, l))

-- references of one file go before those of later ones
put_front : (file : ℕ) (xs zs : List RefId) → All (λ r. r.file ≡ file) xs → All (λ r. file ≤ r.file) zs → ReferencesAreRising zs → ReferencesAreRising (xs ++ zs) × All (λ r. file ≤ r.file) (xs ++ zs)
put_front file [] zs h past rising = (rising, past)
put_front file (x ∷ xs) zs h past rising =
    let r = put_front file xs zs (λ k d l. h (suc k) d (omega (arith, l))) past rising in
    let e : x.file ≡ file = h 0 x (omega arith) in
    (pairs_cons x (xs ++ zs) (λ k d l. omega (arith, e, r.1 k d l)) r.0, all_cons (λ (y : RefId). file ≤ y.file) x (xs ++ zs) (omega (arith, e)) r.1)

-- a test that all references of one file pass, or none does
all_pass : (p : RefId → Bool) (file : ℕ) (xs : List RefId) → All (λ r. r.file ≡ file) xs → ((r : RefId) → r.file ≡ file → p r ≡ true) → filter p xs ≡ xs
all_pass p file [] h so = refl
all_pass p file (x ∷ xs) h so =
    ap (λ b. cond b (x ∷ filter p xs) (filter p xs)) (so x (h 0 x (omega arith)))
    ∙ ap (λ (z : List RefId). x ∷ z) (all_pass p file xs (λ k d l. h (suc k) d (omega (arith, l))) so)

none_passes : (p : RefId → Bool) (file : ℕ) (xs : List RefId) → All (λ r. r.file ≡ file) xs → ((r : RefId) → r.file ≡ file → p r ≡ false) → filter p xs ≡ []
none_passes p file [] h so = refl
none_passes p file (x ∷ xs) h so =
    ap (λ b. cond b (x ∷ filter p xs) (filter p xs)) (so x (h 0 x (omega arith)))
    ∙ none_passes p file xs (λ k d l. h (suc k) d (omega (arith, l))) so

module _ {M : Type 0} (by : ℕ → M → MeantRow) (is : IsOfFile by) where
  -- those of one file
  abbrev own : ℕ → ℕ → List M → List RefId
  own row file ms = references_to_row row (map (by file) ms)

  first_file : (row file : ℕ) (ms : List M) (rest : List (List M)) → references_to_row row (all_meant_by by file (ms ∷ rest)) ≡ own row file ms ++ references_to_row row (all_meant_by by (suc file) rest)
  first_file row file ms rest =
      ap (map (λ (m : MeantRow). m.reference)) (filter-append (λ (m : MeantRow). m.row == row) (map (by file) ms) (all_meant_by by (suc file) rest))
      ∙ map-append (λ (m : MeantRow). m.reference) (filter (λ (m : MeantRow). m.row == row) (map (by file) ms)) (filter (λ (m : MeantRow). m.row == row) (all_meant_by by (suc file) rest))

  own_file : (row file : ℕ) (ms : List M) → All (λ r. r.file ≡ file) (own row file ms)
  own_file row file [] = λ k d l. absurd (omega (arith, l))
  own_file row file (m ∷ ms) = go ((by file m).row == row) (own_file row file ms)
    where
      go : (b : Bool) → All (λ (r : RefId). r.file ≡ file) (own row file ms) → All (λ (r : RefId). r.file ≡ file) (map (λ (x : MeantRow). x.reference) (cond b (by file m ∷ filter (λ (x : MeantRow). x.row == row) (map (by file) ms)) (filter (λ (x : MeantRow). x.row == row) (map (by file) ms))))
      go true rest = all_cons (λ (r : RefId). r.file ≡ file) (by file m).reference (own row file ms) (is file m) rest
      go false rest = rest

  rise_from : (row file : ℕ) (mss : List (List M)) → ReferencesAreRising (references_to_row row (all_meant_by by file mss)) × All (λ r. file ≤ r.file) (references_to_row row (all_meant_by by file mss))
  rise_from row file [] = (λ i j d b l. absurd (omega (arith, l)), λ k d l. absurd (omega (arith, l)))
  rise_from row file (ms ∷ mss) =
      let r = rise_from row (suc file) mss in
      let p = put_front file (own row file ms) (references_to_row row (all_meant_by by (suc file) mss)) (own_file row file ms) (λ k d l. omega (arith, r.1 k d l)) r.0 in
      (subst ReferencesAreRising (sym (first_file row file ms mss)) p.0, subst (All (λ (x : RefId). file ≤ x.file)) (sym (first_file row file ms mss)) p.1)

  -- what passes a test of files, file by file
  filter_first : (p : RefId → Bool) (row file : ℕ) (ms : List M) (rest : List (List M)) → filter p (references_to_row row (all_meant_by by file (ms ∷ rest))) ≡ filter p (own row file ms) ++ filter p (references_to_row row (all_meant_by by (suc file) rest))
  filter_first p row file ms rest =
      ap (filter p) (first_file row file ms rest)
      ∙ filter-append p (own row file ms) (references_to_row row (all_meant_by by (suc file) rest))

  stay_from : (marks : List Bool) (row n : ℕ) (old new : List (List M)) → length old ≡ length new → ((k : ℕ) → get_or marks (n + k) false ≡ false → get_or old k [] ≡ get_or new k [])
      → filter (λ r. not (is_of_marked_file marks r)) (references_to_row row (all_meant_by by n new)) ≡ filter (λ r. not (is_of_marked_file marks r)) (references_to_row row (all_meant_by by n old))
  stay_from marks row n [] [] e h = refl
  stay_from marks row n [] (y ∷ new) e h = absurd (omega (arith, e))
  stay_from marks row n (x ∷ old) [] e h = absurd (omega (arith, e))
  stay_from marks row n (x ∷ old) (y ∷ new) e h =
      filter_first (λ r. not (is_of_marked_file marks r)) row n y new
      ∙ ap (λ z. z ++ filter (λ r. not (is_of_marked_file marks r)) (references_to_row row (all_meant_by by (suc n) new))) here
      ∙ ap (λ z. filter (λ r. not (is_of_marked_file marks r)) (own row n x) ++ z) (stay_from marks row (suc n) old new (omega (arith, e)) (λ k u. h (suc k) (ap (λ i. get_or marks i false) (step k) ∙ u)))
      ∙ sym (filter_first (λ r. not (is_of_marked_file marks r)) row n x old)
    where
      step : (k : ℕ) → n + suc k ≡ suc n + k
      step k = omega arith

      unmarked_none : (ms : List M) → get_or marks n false ≡ true → filter (λ r. not (is_of_marked_file marks r)) (own row n ms) ≡ []
      unmarked_none ms it = none_passes (λ r. not (is_of_marked_file marks r)) n (own row n ms) (own_file row n ms) (λ r of_file. ap not (ap (λ (k : ℕ). get_or marks k false) of_file ∙ it))

      here : filter (λ r. not (is_of_marked_file marks r)) (own row n y) ≡ filter (λ r. not (is_of_marked_file marks r)) (own row n x)
      here = elim (cases_Bool (get_or marks n false)) [
        | inl it ↦ unmarked_none y it ∙ sym (unmarked_none x it)
        | inr other ↦ ap (λ z. filter (λ r. not (is_of_marked_file marks r)) (own row n z)) (sym (h 0 (ap (λ i. get_or marks i false) (omega arith) ∙ other)))
      ]

  gathered_from : (marks : List Bool) (row n : ℕ) (mss : List (List M)) → filter (is_of_marked_file marks) (references_to_row row (all_meant_by by n mss)) ≡ gathered by marks row n mss
  gathered_from marks row n [] = refl
  gathered_from marks row n (ms ∷ mss) =
      filter_first (is_of_marked_file marks) row n ms mss
      ∙ ap (λ z. z ++ filter (is_of_marked_file marks) (references_to_row row (all_meant_by by (suc n) mss))) here
      ∙ ap (λ z. (if get_or marks n false then own row n ms else []) ++ z) (gathered_from marks row (suc n) mss)
    where
      here : filter (is_of_marked_file marks) (own row n ms) ≡ (if get_or marks n false then own row n ms else [])
      here = elim (cases_Bool (get_or marks n false)) [
        | inl it ↦
            all_pass (is_of_marked_file marks) n (own row n ms) (own_file row n ms) (λ r of_file. ap (λ (k : ℕ). get_or marks k false) of_file ∙ it)
            ∙ ap (λ b. if b then own row n ms else []) (sym it)
        | inr other ↦
            none_passes (is_of_marked_file marks) n (own row n ms) (own_file row n ms) (λ r of_file. ap (λ (k : ℕ). get_or marks k false) of_file ∙ other)
            ∙ ap (λ b. if b then own row n ms else []) (sym other)
      ]

pub references_rise : {M : Type 0} → ReferencesRise M
references_rise by is row meant = (rise_from by is row 0 meant).0

pub others_stay : {M : Type 0} → UnmarkedReferencesStay M
others_stay by is marks row old new e h = stay_from by is marks row 0 old new e (λ k u. h k (ap (λ i. get_or marks i false) (zero_more k) ∙ u))
  where
    zero_more : (k : ℕ) → k ≡ 0 + k
    zero_more k = omega arith

pub marked_are_gathered : {M : Type 0} → MarkedAreGathered M
marked_are_gathered by is marks row meant = gathered_from by is marks row 0 meant
