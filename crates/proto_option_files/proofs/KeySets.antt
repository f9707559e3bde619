-- The sets of keys, as more files are noted.
use Rattle.std.proofs.Common.{◌≡◌, ℕ, ◌+◌, ◌<◌, ◌⊎◌, List, [], ◌∷◌, Bool, true, false, length, get_or, get_or-set_other, get_or-set_same, slice_set, replicate, inl, inr, sym, ap, ◌∙◌, subst, below_more, arith, All, Contains}
use Rattle.std.proofs.Math.Nat.{mod-lt}
use Rattle.std.proofs.lemmas.List.{get_or-replicate, length-replicate}
use Rattle.std.proofs.lemmas.List.Elements.{All-weaker}
use Rattle.proto_base.proofs.Common.{cases_eq, cases_lt, contains_cases, contains_head, contains_map, false≢true, get_or_past}
use Rattle.proto_file_sets.proofs.Members.{inserted_is_in}
use Rattle.proto_file_sets.specs.FileSets.{IsIn}
use Rattle.proto_files.proofs.Common.{FileOf, ReadOf, file_at}
use Rattle.proto_names_affected.proofs.WordSets.{added_stay, first_stays}
use Rattle.proto_names_affected.specs.FileMeanings.{place_of}
use Rattle.proto_names_affected.specs.FirstWords.{FirstsStay, first_files}
use Rattle.proto_option_files.specs.OptionFiles.{AddsOnly, AreOnlyTheirs, HasFileKeys, HasKeys, HasRemainder, IsReadOf, OthersStay, file_keys}

-- ---- what is noted stays

pub keys_stay : (old new : List (List Bool)) → FirstsStay old new → (file : ℕ) (keys : List ℕ) → HasKeys old file keys → HasKeys new file keys
keys_stay old new stay file = All-weaker (λ key. IsIn (first_files old key) file) (λ key. IsIn (first_files new key) file) (λ key h. first_stays old new stay key file h)

pub file_keys_stay : (f : FileOf) (old new : List (List Bool)) → FirstsStay old new → (file : ℕ) → HasFileKeys f old file → HasFileKeys f new file
file_keys_stay f old new stay file h = λ r read. keys_stay old new stay file (file_keys f r) (h r read)

-- ---- a file more in a set

module _ (was now : List (List Bool)) (place file : ℕ) (there : place < length was) (put : now ≡ slice_set was place (slice_set (get_or was place []) file true)) where
  abbrev own : List Bool
  own = slice_set (get_or was place []) file true

  pub put_stays : FirstsStay was now
  put_stays = subst (FirstsStay was) (sym put) (added_stay was place file there)

  own_is : get_or now place [] ≡ own
  own_is = ap (λ (sets : List (List Bool)). get_or sets place []) put ∙ get_or-set_same was place own [] there

  other_is : (p : ℕ) → (p ≡ place → ⊥) → get_or now p [] ≡ get_or was p []
  other_is p apart = ap (λ (sets : List (List Bool)). get_or sets p []) put ∙ get_or-set_other was place p own [] apart

  pub put_in : file < length (get_or was place []) → IsIn (get_or now place []) file
  put_in within = ap (λ (set : List Bool). get_or set file false) own_is ∙ inserted_is_in (get_or was place []) file within

  -- one more set has it
  pub in_more : file < length (get_or was place []) → ((k : ℕ) → k < place → IsIn (get_or was k []) file) → (k : ℕ) → k < place + 1 → IsIn (get_or now k []) file
  in_more within before = below_more (λ k. IsIn (get_or now k []) file) place (λ k lt. (put_stays.each k).set file (before k lt)) (put_in within)

  in_own : (other : ℕ) → IsIn own other → IsIn (get_or was place []) other ⊎ (other ≡ file)
  in_own other is = elim (cases_eq other file) [
    | inl same ↦ inr same
    | inr apart ↦ inl (sym (get_or-set_other (get_or was place []) file other true false apart) ∙ is)
  ]

  -- no other set has, and no other file comes in
  pub put_only : (p other : ℕ) → IsIn (get_or now p []) other → IsIn (get_or was p []) other ⊎ ((other ≡ file) × (p ≡ place))
  put_only p other is = elim (cases_eq p place) [
    | inl same ↦
        here same (in_own other (sym (ap (λ (set : List Bool). get_or set other false) (ap (λ k. get_or now k []) same ∙ own_is)) ∙ is))
    | inr apart ↦ inl (sym (ap (λ (set : List Bool). get_or set other false) (other_is p apart)) ∙ is)
  ]
    where
      here : p ≡ place → IsIn (get_or was place []) other ⊎ (other ≡ file) → IsIn (get_or was p []) other ⊎ ((other ≡ file) × (p ≡ place))
      here same (inl h) = inl (ap (λ k. get_or (get_or was k []) other false) same ∙ h)
      here same (inr e) = inr (e, same)

  -- the key that leaves the remainder of the set
  pub put_for : (key : ℕ) → place ≡ place_of (length was) key → AddsOnly was now file (key ∷ [])
  put_for key at p other is = elim (put_only p other is) [
    | inl h ↦ inl h
    | inr e ↦ inr (e.0, subst (HasRemainder (length was) (key ∷ [])) (sym (e.1 ∙ at)) (contains_head (place_of (length was) key) []))
  ]

  pub put_others : OthersStay was now (λ other. other ≡ file)
  put_others p other apart is = elim (put_only p other is) [
    | inl h ↦ h
    | inr e ↦ absurd (apart e.0)
  ]

-- where each set has it, it is among those of each key
pub in_now : (sets : List (List Bool)) (file : ℕ) → 0 < length sets → ((k : ℕ) → k < length sets → IsIn (get_or sets k []) file) → (key : ℕ) → IsIn (first_files sets key) file
in_now sets file some each key = each (place_of (length sets) key) (mod-lt key some)

-- ---- no others

-- empty sets have no file
pub nothing_in : (n : ℕ) (sets : List (List Bool)) → All (λ set. set ≡ replicate n false) sets → (place file : ℕ) → IsIn (get_or sets place []) file → ⊥
nothing_in n sets all place file is = elim (cases_lt place (length sets)) [
  | inl l ↦
      (let empty : IsIn (replicate n false) file = ap (λ (set : List Bool). get_or set file false) (sym (all place [] l)) ∙ is in
      false≢true (sym (none_of n file) ∙ empty))
  | inr past ↦ false≢true (ap (λ (set : List Bool). get_or set file false) (sym (get_or_past sets place [] past)) ∙ is)
]
  where
    none_of : (n file : ℕ) → get_or (replicate n false) file false ≡ false
    none_of n file = elim (cases_lt file n) [
      | inl l ↦ get_or-replicate n file false false l
      | inr past ↦ get_or_past (replicate n false) file false (omega (arith, past, length-replicate n false))
    ]

-- the one key that leaves a remainder
one_remainder : (count key place : ℕ) → HasRemainder count (key ∷ []) place → place_of count key ≡ place
one_remainder count key place c = elim (contains_cases (place_of count key) place [] c) [
  | inl e ↦ e
  | inr none ↦ absurd (omega (arith, none.1))
]

pub only_others : (old new : List (List Bool)) (file : ℕ) (keys : List ℕ) → AddsOnly old new file keys → OthersStay old new (λ other. other ≡ file)
only_others old new file keys only place other apart is = elim (only place other is) [
  | inl h ↦ h
  | inr e ↦ absurd (apart e.0)
]

-- one key more of those that come in
pub adds_more : (start was now : List (List Bool)) (file : ℕ) (keys : List ℕ) → FirstsStay start was → AddsOnly start was file keys
    → (key : ℕ) → Contains keys key → AddsOnly was now file (key ∷ []) → AddsOnly start now file keys
adds_more start was now file keys stay before key c more place other is = elim (more place other is) [
  | inl h ↦ before place other h
  | inr e ↦ inr (e.0, subst (HasRemainder (length start) keys) (ap (λ n. place_of n key) (sym stay.count) ∙ one_remainder (length was) key place e.1) (contains_map (place_of (length start)) keys key c))
]

-- one file more that comes in, with its keys
pub only_more : (files : List FileOf) (was now : List (List Bool)) → FirstsStay was now → (file : ℕ) (keys : List ℕ) → AddsOnly was now file keys
    → ((r : ReadOf) → IsReadOf (file_at files file) r → keys ≡ file_keys (file_at files file) r) → AreOnlyTheirs files was → AreOnlyTheirs files now
only_more files was now stay file keys adds theirs only place other is r read =
    subst (λ n. HasRemainder n (file_keys (file_at files other) r) place) (sym stay.count) (elim (adds place other is) [
      | inl h ↦ only place other h r read
      | inr e ↦ own e.0 e.1
    ])
  where
    own : other ≡ file → HasRemainder (length was) keys place → HasRemainder (length was) (file_keys (file_at files other) r) place
    own e = subst (λ (ks : List ℕ). HasRemainder (length was) ks place)
        (theirs r (subst (λ k. IsReadOf (file_at files k) r) e read) ∙ ap (λ k. file_keys (file_at files k) r) (sym e))
