-- References by rising files are those of files that are not marked with those of marked ones.
use Rattle.std.proofs.Common.{◌≡◌, ℕ, suc, ◌<◌, ◌≤◌, Bool, true, false, not, List, [], ◌∷◌, ◌++◌, length, get_or, refl, sym, ◌∙◌, ap, inl, inr, arith, cond, subst, nat_lt, All, filter}
use Rattle.proto_base.proofs.Common.{both_ways, cases_Bool, cases_lt, cond-false, cond-true, not-true}
use Rattle.std.proofs.lemmas.Bool.{le-ltb, lt-ltb}
use Rattle.proto_names_table.specs.declared.ids.RefId.{RefId}
use Rattle.proto_names_affected.specs.Merged.{ReferencesAreRising, references_before, references_from, is_of_marked_file, merged}

-- each of the references is of this file or of a later one
abbrev From : ℕ → List RefId → Type 0
From file rs = All (λ r. file ≤ r.file) rs

rising_from : (x : RefId) (xs : List RefId) → ReferencesAreRising (x ∷ xs) → From x.file xs
rising_from x xs h k d l = h 0 (suc k) d (omega arith) (omega (arith, l))

rising_rest : (x : RefId) (xs : List RefId) → ReferencesAreRising (x ∷ xs) → ReferencesAreRising xs
rising_rest x xs h i j d b l = h (suc i) (suc j) d (omega (arith, b)) (omega (arith, l))

-- where the first reference is of this file or of a later one, none stands before it
none_before : (file : ℕ) (ys : List RefId) → (0 < length ys → (d : RefId) → file ≤ (get_or ys 0 d).file) → (references_before file ys ≡ []) × (references_from file ys ≡ ys)
none_before file [] h = (refl, refl)
none_before file (y ∷ ys) h =
    let past = le-ltb y.file file (h (omega arith) y) in
    (cond-false (nat_lt y.file file) (y ∷ references_before file ys) [] past, cond-false (nat_lt y.file file) (references_from file ys) (y ∷ ys) past)

-- what is known of the first reference that passes a test
record IsFirst (p : RefId → Bool) (file : ℕ) (y : RefId) : Type 0 where
  behind : file ≤ y.file
  passes : p y ≡ true

first_passes : (p : RefId → Bool) (file : ℕ) (xs : List RefId) → From file xs → 0 < length (filter p xs) → (d : RefId) → IsFirst p file (get_or (filter p xs) 0 d)
first_passes p file [] h l d = absurd (omega (arith, l))
first_passes p file (x ∷ xs) h l d = elim (cases_Bool (p x)) [
  | inl it ↦ subst (λ ys. IsFirst p file (get_or ys 0 d)) (sym (cond-true (p x) (x ∷ filter p xs) (filter p xs) it)) (record { behind = h 0 d (omega arith); passes = it })
  | inr other ↦
      let e : filter p (x ∷ xs) ≡ filter p xs = cond-false (p x) (x ∷ filter p xs) (filter p xs) other in
      subst (λ ys. IsFirst p file (get_or ys 0 d)) (sym e) (first_passes p file xs (λ k c b. h (suc k) c (omega (arith, b))) (omega (arith, l, ap length e)) d)
]

-- a reference that is of an earlier file than those of the first list goes before them
goes_first : (x : RefId) (us vs xs : List RefId) → (0 < length us → (d : RefId) → x.file < (get_or us 0 d).file) → merged us vs ≡ xs → merged us (x ∷ vs) ≡ x ∷ xs
goes_first x [] vs xs h e = ap (λ (zs : List RefId). x ∷ zs) e
goes_first x (u ∷ us) vs xs h e =
    let below = lt-ltb x.file u.file (h (omega arith) u) in
    ap (λ (b : Bool). cond b (x ∷ references_before u.file vs) [] ++ u ∷ merged us (cond b (references_from u.file vs) (x ∷ vs))) below
    ∙ ap (λ (zs : List RefId). x ∷ zs) e

-- a marked reference and one that is not are of two files
files_apart : (marks : List Bool) (x y : RefId) → is_of_marked_file marks x ≡ true → not (is_of_marked_file marks y) ≡ true → x.file ≤ y.file → x.file < y.file
files_apart marks x y marked_so not_so l = elim (cases_lt x.file y.file) [
  | inl b ↦ b
  | inr a ↦
      let e : y.file ≡ x.file = omega (arith, l, a) in
      absurd (both_ways (is_of_marked_file marks y) (not-true (is_of_marked_file marks y) not_so) (ap (λ (k : ℕ). get_or marks k false) e ∙ marked_so))
]

pub parted : (marks : List Bool) (all : List RefId) → ReferencesAreRising all → merged (filter (λ r. not (is_of_marked_file marks r)) all) (filter (is_of_marked_file marks) all) ≡ all
parted marks [] h = refl
parted marks (x ∷ xs) h = elim (cases_Bool (is_of_marked_file marks x)) [
  | inl marked_so ↦
      ap (λ (b : Bool). merged (cond (not b) (x ∷ filter (λ r. not (is_of_marked_file marks r)) xs) (filter (λ r. not (is_of_marked_file marks r)) xs)) (cond b (x ∷ filter (is_of_marked_file marks) xs) (filter (is_of_marked_file marks) xs))) marked_so
      ∙ goes_first x (filter (λ r. not (is_of_marked_file marks r)) xs) (filter (is_of_marked_file marks) xs) xs
      (λ l d.
      (let f = first_passes (λ r. not (is_of_marked_file marks r)) x.file xs (rising_from x xs h) l d in
      files_apart marks x (get_or (filter (λ r. not (is_of_marked_file marks r)) xs) 0 d) marked_so f.passes f.behind))
      (parted marks xs (rising_rest x xs h))
  | inr not_so ↦
      let apart = none_before x.file (filter (is_of_marked_file marks) xs) (λ l d. (first_passes (is_of_marked_file marks) x.file xs (rising_from x xs h) l d).behind) in
      ap (λ (b : Bool). merged (cond (not b) (x ∷ filter (λ r. not (is_of_marked_file marks r)) xs) (filter (λ r. not (is_of_marked_file marks r)) xs)) (cond b (x ∷ filter (is_of_marked_file marks) xs) (filter (is_of_marked_file marks) xs))) not_so
      ∙ ap (λ (zs : List RefId). zs ++ x ∷ merged (filter (λ r. not (is_of_marked_file marks r)) xs) (references_from x.file (filter (is_of_marked_file marks) xs))) apart.0
      ∙ ap (λ (zs : List RefId). x ∷ merged (filter (λ r. not (is_of_marked_file marks r)) xs) zs) apart.1
      ∙ ap (λ (zs : List RefId). x ∷ zs) (parted marks xs (rising_rest x xs h))
]
