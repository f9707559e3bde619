-- The files of sets, as one list in order.
use Rattle.std.proofs.Common.{◌≡◌, ℕ, ◌<◌, Bool, false, List, length, get_or, take, replicate, sym, ◌∙◌, ap, subst, inl, inr, arith, All, AllPairs, Contains}
use Rattle.std.specs.List.{range_with_len}
use Rattle.std.proofs.lemmas.List.{get_or-take, length-take-le}
use Rattle.std.proofs.lemmas.List.FromFn.{get_or-range_with_len, length-range_with_len}
use Rattle.std.proofs.lemmas.List.Kept.{AllPairs-filter}
use Rattle.proto_base.proofs.Common.{cases_eq, cases_lt, get_or_default}
use Rattle.proto_file_sets.specs.FileSets.{IsIn, files_in, is_in_or_new}
use Rattle.proto_file_sets.proofs.Members.{file_is_listed, files_below, new_is_in}

row_rises : (a n : ℕ) → AllPairs (λ x y. x < y) (range_with_len a n)
row_rises a n = λ i j d less l. (
    let long = length-range_with_len a n in
    let low : i < n = omega (arith, less, l, long) in
    let high : j < n = omega (arith, l, long) in
    omega (arith, less, get_or-range_with_len a n i d low, get_or-range_with_len a n j d high))

files_rise : (set : List Bool) → AllPairs (λ x y. x < y) (files_in set)
unfolding files_in
files_rise set = AllPairs-filter (λ x y. x < y) (λ file. get_or set file false) (range_with_len 0 (length set)) (row_rises 0 (length set))

-- a list of a set's files, of so many
module _ (set : List Bool) (listed : List ℕ) (count : ℕ) (is : listed ≡ files_in set) (sized : length set ≡ count) where
  pub are_below : All (λ file. file < count) listed
  are_below = subst (λ (n : ℕ). All (λ file. file < n) listed) sized (subst (All (λ file. file < length set)) (sym is) (files_below set))

  pub are_rising : AllPairs (λ f g. f < g) listed
  are_rising = subst (AllPairs (λ f g. f < g)) (sym is) (files_rise set)

  pub is_listed : (file : ℕ) → file < count → IsIn set file → Contains listed file
  is_listed file l on = subst (λ (fs : List ℕ). Contains fs file) (sym is) (file_is_listed set file (omega (arith, l, sized)) on)

-- a file of the added set is in the new one
pub added_is_in : (old seen none new : List Bool) → none ≡ replicate 0 false → ((file : ℕ) → file < length old → get_or new file false ≡ is_in_or_new old seen none file) → (file : ℕ) → file < length old → IsIn seen file → IsIn new file
added_is_in old seen none new is_none files file l on = files file l ∙ new_is_in old seen none file on (ap (λ (s : List Bool). get_or s file false) is_none)

-- what is below an element of a rising list stands before it
pub stands_before : (xs : List ℕ) → AllPairs (λ x y. x < y) xs → (i k : ℕ) → i < length xs → k < get_or xs i 0 → Contains xs k → Contains (take i xs) k
stands_before xs rise i k l less c =
    let here = get_or_default xs i k 0 l in
    elim (cases_lt c.0 i) [
      | inl before ↦
          let short = length-take-le i xs (omega (arith, l)) in
          (c.0, omega (arith, before, short), get_or-take i xs c.0 k before ∙ c.2)
      | inr past ↦ elim (cases_eq i c.0) [
        | inl same ↦ (let e = ap (λ j. get_or xs j k) same in absurd (omega (arith, less, here, e, c.2)))
        | inr apart ↦ (let high = rise i c.0 k (omega (arith, past, apart)) c.1 in absurd (omega (arith, less, here, high, c.2)))
      ]
    ]
