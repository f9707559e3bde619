-- Files that see again: what stands in place of what they saw, and the log of it.
use Rattle.std.proofs.Common.{◌≡◌, ◌≢◌, ◌⊎◌, ℕ, ◌+◌, ◌<◌, Bool, false, List, [], ◌∷◌, ◌++◌, length, get_or, map, take, refl, sym, ◌∙◌, ap, subst, inl, inr, arith, All, Contains}
use Rattle.std.specs.List.{AllPairs, range_with_len}
use Rattle.std.proofs.lemmas.List.{get_or-take, length-take-le, take_more}
use Rattle.std.proofs.lemmas.List.FromFn.{get_or-range_with_len, length-range_with_len}
use Rattle.std.proofs.lemmas.List.Kept.{AllPairs-filter}
use Rattle.proto_base.proofs.Common.{All-push, Contains-append_cases, Contains-append_left, both_ways, cases_Bool, cases_eq, get_or_default, map-append}
use Rattle.proto_base.specs.Undone.{AreWithin, IsNoted, undone}
use Rattle.proto_base.specs.declared.changes.Change.{Change}
use Rattle.proto_file_sets.specs.FileSets.{files_in}
use Rattle.proto_file_sets.proofs.Members.{files_below, listed_files}
use Rattle.proto_names_imports.proofs.Walks.{last_in, one_of}

-- ---- the list of a set's files has each once
row_rises : (a n : ℕ) → AllPairs (λ x y. x < y) (range_with_len a n)
row_rises a n = λ i j d less l. (
    let long = length-range_with_len a n in
    let low : i < n = omega (arith, less, l, long) in
    let high : j < n = omega (arith, l, long) in
    omega (arith, less, get_or-range_with_len a n i d low, get_or-range_with_len a n j d high))

files_rise : (set : List Bool) → AllPairs (λ x y. x < y) (files_in set)
unfolding files_in
files_rise set = AllPairs-filter (λ x y. x < y) (λ file. get_or set file false) (range_with_len 0 (length set)) (row_rises 0 (length set))

once : (xs : List ℕ) (i : ℕ) → AllPairs (λ x y. x < y) xs → i < length xs → Contains (take i xs) (get_or xs i 0) → ⊥
once xs i rise l c =
    let x = get_or xs i 0 in
    let short = length-take-le i xs (omega (arith, l)) in
    let before : c.0 < i = omega (arith, c.1, short) in
    let less = rise c.0 i x before l in
    let same : get_or xs c.0 x ≡ x = sym (get_or-take i xs c.0 x before) ∙ c.2 in
    let here : get_or xs i x ≡ x = get_or_default xs i x 0 l in
    omega (arith, less, same, here)

pub file_once : (set : List Bool) (i : ℕ) → i < length (files_in set) → Contains (take i (files_in set)) (get_or (files_in set) i 0) → ⊥
file_once set i l c = once (files_in set) i (files_rise set) l c

-- ---- the log tells what each of its files saw at first; all others see what they saw
pub record IsLogged (count : ℕ) (first now : List (List Bool)) (log : List (Change (List Bool))) : Type 0 where
  pub back : undone log now ≡ first
  pub len : length now ≡ count
  pub within : AreWithin count log
  pub was : All (λ c. get_or first c.place [] ≡ c.was) log
  pub kept : (file : ℕ) → (Contains (map (λ c. c.place) log) file → ⊥) → get_or now file [] ≡ get_or first file []

pub logged_none : (count : ℕ) (first : List (List Bool)) (log : List (Change (List Bool))) → log ≡ [] → length first ≡ count → IsLogged count first first log
logged_none count first log none len =
    let empty : IsLogged count first first [] =
    record {
      back = refl;
      len = len;
      within = λ k d l. absurd (omega (arith, l));
      was = λ k d l. absurd (omega (arith, l));
      kept = λ file absent. refl;
    } in
    subst (IsLogged count first first) (sym none) empty

-- one file more, which saw what it saw at first
pub logged_more : (count : ℕ) (first now next : List (List Bool)) (log longer : List (Change (List Bool))) (file : ℕ) → file < count → IsLogged count first now log → get_or now file [] ≡ get_or first file []
    → undone longer next ≡ undone log now → length next ≡ length now → ((other : ℕ) → other ≢ file → get_or next other [] ≡ get_or now other []) → ((next ≡ now) × (longer ≡ log)) ⊎ IsNoted log longer now file → IsLogged count first next longer
logged_more count first now next log longer file l logged ahead back len others noted = record {
  back = back ∙ logged.back;
  len = len ∙ logged.len;
  within = elim noted [
    | inl same ↦ subst (AreWithin count) (sym same.1) logged.within
    | inr n ↦ subst (AreWithin count) (sym n.behind) (All-push (λ (c : Change (List Bool)). c.place < count) log (record { place = file; was = n.was }) logged.within l)
  ];
  was = elim noted [
    | inl same ↦ subst (All (λ (c : Change (List Bool)). get_or first c.place [] ≡ c.was)) (sym same.1) logged.was
    | inr n ↦
        let stood : get_or first file [] ≡ n.was = sym ahead ∙ get_or_default now file [] n.was (omega (arith, l, logged.len)) ∙ sym n.stood in
        subst (All (λ (c : Change (List Bool)). get_or first c.place [] ≡ c.was)) (sym n.behind) (All-push (λ (c : Change (List Bool)). get_or first c.place [] ≡ c.was) log (record { place = file; was = n.was }) logged.was stood)
  ];
  kept = λ other absent. elim noted [
    | inl same ↦
        ap (λ (z : List (List Bool)). get_or z other []) same.0
        ∙ logged.kept other (λ c. absent (subst (λ (z : List (Change (List Bool))). Contains (map (λ d. d.place) z) other) (sym same.1) c))
    | inr n ↦
        let places : map (λ d. d.place) longer ≡ map (λ d. d.place) log ++ file ∷ [] = ap (map (λ d. d.place)) n.behind ∙ map-append (λ d. d.place) log (record { place = file; was = n.was } ∷ []) in
        let gone : Contains (map (λ d. d.place) log ++ file ∷ []) other → ⊥ = λ c. absent (subst (λ (z : List ℕ). Contains z other) (sym places) c) in
        others other (λ e. gone (subst (Contains (map (λ d. d.place) log ++ file ∷ [])) (sym e) (last_in (map (λ d. d.place) log) file)))
        ∙ logged.kept other (λ c. gone (Contains-append_left (map (λ d. d.place) log) (file ∷ []) other c))
  ];
}

-- ---- these files see what they see now; all others see what they saw
pub record SeeAgain (Sees : ℕ → List Bool → Type 0) (first now : List (List Bool)) (done : List ℕ) : Type 0 where
  pub exact : (file : ℕ) → Contains done file → Sees file (get_or now file [])
  pub ahead : (file : ℕ) → (Contains done file → ⊥) → get_or now file [] ≡ get_or first file []

pub again_none : (Sees : ℕ → List Bool → Type 0) (first : List (List Bool)) → SeeAgain Sees first first []
again_none Sees first = record {
  exact = λ file c. absurd (omega (arith, c.1));
  ahead = λ file absent. refl;
}

pub again_more : (Sees : ℕ → List Bool → Type 0) (first now next : List (List Bool)) (done : List ℕ) (file : ℕ) → SeeAgain Sees first now done → ((other : ℕ) → other ≢ file → get_or next other [] ≡ get_or now other []) → Sees file (get_or next file [])
    → SeeAgain Sees first next (done ++ file ∷ [])
again_more Sees first now next done file again others here = record {
  exact = λ other c. elim (cases_eq other file) [
    | inl e ↦ subst (λ z. Sees z (get_or next z [])) (sym e) here
    | inr ne ↦ subst (Sees other) (sym (others other ne)) (again.exact other (elim (Contains-append_cases done (file ∷ []) other c) [ inl a ↦ a | inr b ↦ absurd (ne (sym (one_of file other b))) ]))
  ];
  ahead = λ other absent.
      (others other (λ e. absent (subst (Contains (done ++ file ∷ [])) (sym e) (last_in done file)))
      ∙ again.ahead other (λ c. absent (Contains-append_left done (file ∷ []) other c)));
}

-- when all files of a set do, all files do
pub again_whole : (Sees : ℕ → List Bool → Type 0) (stale : List Bool) (first now : List (List Bool)) (file : ℕ) → SeeAgain Sees first now (files_in stale) → file < length stale → (get_or stale file false ≡ false → Sees file (get_or first file [])) → Sees file (get_or now file [])
again_whole Sees stale first now file again l known = elim (cases_Bool (get_or stale file false)) [
  | inl is ↦ again.exact file ((listed_files stale file).1 (l, is))
  | inr other ↦ subst (Sees file) (sym (again.ahead file (λ c. both_ways (get_or stale file false) other ((listed_files stale file).0 c).1))) (known other)
]

-- ---- one file more of the list of a set's files
module _ (set : List Bool) (items : List ℕ) (listed : items ≡ files_in set) (count : ℕ) (sized : length set ≡ count) where
  pub item_within : (i : ℕ) → i < length items → get_or items i 0 < count
  item_within i l = let r = subst (All (λ file. file < length set)) (sym listed) (files_below set) i 0 l in omega (arith, r, sized)

  pub logged_on : (Sees : ℕ → List Bool → Type 0) (first now next : List (List Bool)) (log longer : List (Change (List Bool))) (i : ℕ) → i < length items → IsLogged count first now log → SeeAgain Sees first now (take i items)
      → undone longer next ≡ undone log now → length next ≡ length now → ((other : ℕ) → other ≢ get_or items i 0 → get_or next other [] ≡ get_or now other []) → ((next ≡ now) × (longer ≡ log)) ⊎ IsNoted log longer now (get_or items i 0) → IsLogged count first next longer
  logged_on Sees first now next log longer i l logged again back len others noted =
      let once : Contains (take i items) (get_or items i 0) → ⊥ = subst (λ (z : List ℕ). i < length z → Contains (take i z) (get_or z i 0) → ⊥) (sym listed) (file_once set i) l in
      logged_more count first now next log longer (get_or items i 0) (item_within i l) logged (again.ahead (get_or items i 0) once) back len others noted

  pub again_on : (Sees : ℕ → List Bool → Type 0) (first now next : List (List Bool)) (i : ℕ) → i < length items → SeeAgain Sees first now (take i items) → ((other : ℕ) → other ≢ get_or items i 0 → get_or next other [] ≡ get_or now other [])
      → Sees (get_or items i 0) (get_or next (get_or items i 0) []) → SeeAgain Sees first next (take (i + 1) items)
  again_on Sees first now next i l again others here = subst (SeeAgain Sees first next) (sym (take_more items i 0 l)) (again_more Sees first now next (take i items) (get_or items i 0) again others here)
