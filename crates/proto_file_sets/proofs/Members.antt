-- Files in sets, and one more or all new ones (for the crates above).
use Rattle.std.proofs.Common.{◌≡◌, ℕ, zero, suc, ◌<◌, Bool, true, false, not, ◌&&◌, List, [], ◌∷◌, cond, length, get_or, filter, subst, sym, ◌∙◌, ap, inl, inr, arith, true≢false, slice_set, get_or-set_same, get_or-set_other}
use Rattle.std.proofs.lemmas.Bool.{cases_eq, or_right, and_from, not_from_false}
use Rattle.std.specs.Prelude.{◌↔◌}
use Rattle.std.specs.List.{All, Contains, range_with_len}
use Rattle.std.proofs.lemmas.List.Elements.{All-contains, All-filter, All-from_get_or, Contains-append_right, Contains-get_or, filter_passes}
use Rattle.std.proofs.lemmas.List.FromFn.{length-range_with_len, get_or-range_with_len}
use Rattle.proto_file_sets.specs.FileSets.{IsIn, is_in_or_new, files_in}

-- only files that a set is of are in it
pub in_within : (set : List Bool) (file : ℕ) → IsIn set file → file < length set
in_within [] file is = absurd (true≢false (sym is))
in_within (b ∷ set) zero is = omega arith
in_within (b ∷ set) (suc file) is = let within = in_within set file is in omega (arith, within)

-- a file that was put into a set is in it
pub inserted_is_in : (set : List Bool) (file : ℕ) → file < length set → IsIn (slice_set set file true) file
inserted_is_in set file within = get_or-set_same set file true false within

-- so are those that were
pub others_stay_in : (set : List Bool) (file other : ℕ) → IsIn set other → IsIn (slice_set set file true) other
others_stay_in set file other is = elim (cases_eq other file) [
  | inl same ↦
      ap (λ n. get_or (slice_set set n true) other false) (sym same)
      ∙ get_or-set_same set other true false (in_within set other is)
  | inr apart ↦ get_or-set_other set file other true false apart ∙ is
]

-- a file that was seen, and was not there before, is in the set with the new ones
pub new_is_in : (set seen before : List Bool) (file : ℕ) → IsIn seen file → get_or before file false ≡ false → is_in_or_new set seen before file ≡ true
new_is_in set seen before file is was =
    let new = get_or seen file false && not (get_or before file false) in
    or_right (get_or set file false) new (and_from (get_or seen file false) (not (get_or before file false)) is (not_from_false (get_or before file false) was))

-- ---- the list of a set's files
number_in_row : (n file : ℕ) → file < n → get_or (range_with_len 0 n) file 0 ≡ file
number_in_row n file l = omega (arith, get_or-range_with_len 0 n file 0 l)

row_below : (n : ℕ) → All (λ file. file < n) (range_with_len 0 n)
row_below n = All-from_get_or (λ file. file < n) (range_with_len 0 n) 0 (λ i l.
    let below : i < n = omega (arith, l, length-range_with_len 0 n) in
    omega (arith, below, number_in_row n i below))

in_row : (n file : ℕ) → file < n → Contains (range_with_len 0 n) file
in_row n file l = subst (Contains (range_with_len 0 n)) (number_in_row n file l) (Contains-get_or (range_with_len 0 n) file 0 (omega (arith, l, length-range_with_len 0 n)))

in_more : (b : Bool) (y : ℕ) (ys : List ℕ) (x : ℕ) → Contains ys x → Contains (cond b (y ∷ ys) ys) x
in_more true y ys x h = Contains-append_right (y ∷ []) ys x h
in_more false y ys x h = h

-- an element that passes is among those that do
passes_at : (p : ℕ → Bool) (xs : List ℕ) (x : ℕ) → p x ≡ true → (k : ℕ) → k < length xs → get_or xs k x ≡ x → Contains (filter p xs) x
passes_at p [] x is k l e = absurd (omega (arith, l))
passes_at p (y ∷ xs) x is zero l e = subst (λ b. Contains (cond b (y ∷ filter p xs) (filter p xs)) x) (sym (ap p e ∙ is)) (0, omega arith, e)
passes_at p (y ∷ xs) x is (suc k) l e = in_more (p y) y (filter p xs) x (passes_at p xs x is k (omega (arith, l)) e)

-- all of them are files that the set is of
pub files_below : (set : List Bool) → All (λ file. file < length set) (files_in set)
unfolding files_in
files_below set = All-filter (λ file. get_or set file false) (λ file. file < length set) (range_with_len 0 (length set)) (row_below (length set))

-- and in it
pub files_are_in : (set : List Bool) → All (IsIn set) (files_in set)
unfolding files_in
files_are_in set = filter_passes (λ file. get_or set file false) (range_with_len 0 (length set))

-- each file in the set is listed
pub file_is_listed : (set : List Bool) (file : ℕ) → file < length set → IsIn set file → Contains (files_in set) file
unfolding files_in
file_is_listed set file l is =
    let place = in_row (length set) file l in
    passes_at (λ n. get_or set n false) (range_with_len 0 (length set)) file is place.0 place.1 place.2

-- exactly those are listed
pub listed_files : (set : List Bool) (file : ℕ) → Contains (files_in set) file ↔ ((file < length set) × IsIn set file)
listed_files set file = (
  λ listed. (All-contains (λ n. n < length set) (files_in set) file (files_below set) listed, All-contains (IsIn set) (files_in set) file (files_are_in set) listed),
  λ both. file_is_listed set file both.0 both.1,
)
