-- Lists of numbers turned round, number by number (for the crates above).
use Rattle.std.proofs.Common.{◌≡◌, ◌≢◌, ◌⊎◌, ◌↔◌, ℕ, zero, suc, ◌+◌, ◌<◌, List, [], ◌∷◌, ◌++◌, length, get_or, take, refl, sym, ◌∙◌, ap, subst, inl, inr, arith, replicate, slice_set, Contains, get_or-set_same, get_or-set_other}
use Rattle.proto_base.proofs.Common.{cases_eq, Contains-append_left, Contains-append_cases}
use Rattle.std.proofs.Math.Seq.{take-suc}
use Rattle.proto_names_imports.proofs.Walks.{last_in, one_of}

pub contains_within : (ls : List (List ℕ)) (a b : ℕ) → Contains (get_or ls a []) b → a < length ls
contains_within [] a b c = absurd (omega (arith, c.1))
contains_within (l ∷ ls) zero b c = omega arith
contains_within (l ∷ ls) (suc a) b c = let r = contains_within ls a b c in omega (arith, r)

-- what the lists have after a number was put into those of these places
abbrev pub HasPut : List (List ℕ) → List ℕ → ℕ → List (List ℕ) → Type 0
HasPut old places file new = (place one : ℕ) → Contains (get_or new place []) one ↔ (Contains (get_or old place []) one ⊎ (Contains places place × (one ≡ file)))

pub take_more : {X : Type 0} (xs : List X) (i : ℕ) (d : X) → i < length xs → take (i + 1) xs ≡ take i xs ++ get_or xs i d ∷ []
take_more xs i d l = let e : i + 1 ≡ suc i = omega arith in ap (λ k. take k xs) e ∙ take-suc xs i d l

put_same : (old now : List (List ℕ)) (places : List ℕ) (p file : ℕ) → p < length now → HasPut old places file now → (one : ℕ) → Contains (get_or (slice_set now p (get_or now p [] ++ file ∷ [])) p []) one ↔ (Contains (get_or old p []) one ⊎ (Contains (places ++ p ∷ []) p × (one ≡ file)))
put_same old now places p file l inv one = (
  λ c.
      elim (Contains-append_cases (get_or now p []) (file ∷ []) one (subst (λ z. Contains z one) (get_or-set_same now p (get_or now p [] ++ file ∷ []) [] l) c)) [
        | inl a ↦ elim ((inv p one).0 a) [ inl o ↦ inl o | inr q ↦ inr (last_in places p, q.1) ]
        | inr b ↦ inr (last_in places p, sym (one_of file one b))
      ],
  λ d.
      subst (λ z. Contains z one) (sym (get_or-set_same now p (get_or now p [] ++ file ∷ []) [] l))
      (elim d [
        | inl o ↦ Contains-append_left (get_or now p []) (file ∷ []) one ((inv p one).1 (inl o))
        | inr q ↦ subst (Contains (get_or now p [] ++ file ∷ [])) (sym q.1) (last_in (get_or now p []) file)
      ]),
)

put_other : (old now : List (List ℕ)) (places : List ℕ) (p file : ℕ) → HasPut old places file now → (place one : ℕ) → place ≢ p → Contains (get_or (slice_set now p (get_or now p [] ++ file ∷ [])) place []) one ↔ (Contains (get_or old place []) one ⊎ (Contains (places ++ p ∷ []) place × (one ≡ file)))
put_other old now places p file inv place one ne = (
  λ c.
      elim ((inv place one).0 (subst (λ z. Contains z one) (get_or-set_other now p place (get_or now p [] ++ file ∷ []) [] ne) c)) [
        | inl o ↦ inl o
        | inr q ↦ inr (Contains-append_left places (p ∷ []) place q.0, q.1)
      ],
  λ d.
      subst (λ z. Contains z one) (sym (get_or-set_other now p place (get_or now p [] ++ file ∷ []) [] ne))
      ((inv place one).1
      (elim d [
        | inl o ↦ inl o
        | inr q ↦ elim (Contains-append_cases places (p ∷ []) place q.0) [ inl a ↦ inr (a, q.1) | inr b ↦ absurd (ne (sym (one_of p place b))) ]
      ])),
)

pub put_step : (old now new : List (List ℕ)) (places : List ℕ) (i file : ℕ) → i < length places → get_or places i 0 < length now → HasPut old (take i places) file now → new ≡ slice_set now (get_or places i 0) (get_or now (get_or places i 0) [] ++ file ∷ []) → HasPut old (take (i + 1) places) file new
put_step old now new places i file l within inv e = λ place one. subst (λ n. Contains (get_or n place []) one ↔ (Contains (get_or old place []) one ⊎ (Contains (take (i + 1) places) place × (one ≡ file)))) (sym e)
    (subst (λ t. Contains (get_or (slice_set now (get_or places i 0) (get_or now (get_or places i 0) [] ++ file ∷ [])) place []) one ↔ (Contains (get_or old place []) one ⊎ (Contains t place × (one ≡ file)))) (sym (take_more places i 0 l)) (go place one))
  where
    go : (place one : ℕ) → Contains (get_or (slice_set now (get_or places i 0) (get_or now (get_or places i 0) [] ++ file ∷ [])) place []) one ↔ (Contains (get_or old place []) one ⊎ (Contains (take i places ++ get_or places i 0 ∷ []) place × (one ≡ file)))
    go place one = elim (cases_eq place (get_or places i 0)) [
      | inl same ↦
          subst (λ q. Contains (get_or (slice_set now (get_or places i 0) (get_or now (get_or places i 0) [] ++ file ∷ [])) q []) one ↔ (Contains (get_or old q []) one ⊎ (Contains (take i places ++ get_or places i 0 ∷ []) q × (one ≡ file)))) (sym same)
          (put_same old now (take i places) (get_or places i 0) file within inv one)
      | inr ne ↦ put_other old now (take i places) (get_or places i 0) file inv place one ne
    ]

-- turned round as far as the lists before this number go
abbrev pub TurnedBelow : List (List ℕ) → ℕ → List (List ℕ) → Type 0
TurnedBelow next file back = (a b : ℕ) → Contains (get_or back b []) a ↔ ((a < file) × Contains (get_or next a []) b)

-- what stands at a place of a list of one thing, or behind its end
replicated_at : {X : Type 0} (x : X) (n i : ℕ) → get_or (replicate n x) i x ≡ x
replicated_at x zero i = refl
replicated_at x (suc n) zero = refl
replicated_at x (suc n) (suc i) = replicated_at x n i

-- empty lists, before any list is turned round
pub turned_none : (next : List (List ℕ)) (n : ℕ) → TurnedBelow next 0 (replicate n [])
turned_none next n = λ a b. (λ c. absurd (let none = (subst (λ xs. Contains xs a) (replicated_at [] n b) c).1 in omega (arith, none)), λ d. absurd (omega (arith, d.0)))

pub turned_step : (next : List (List ℕ)) (file : ℕ) (back new : List (List ℕ)) → TurnedBelow next file back → HasPut back (get_or next file []) file new → TurnedBelow next (file + 1) new
turned_step next file back new inv put = λ a b. (
  λ c. elim ((put b a).0 c) [
    | inl o ↦ let r = (inv a b).0 o in (omega (arith, r.0), r.1)
    | inr q ↦ (omega (arith, q.1), subst (λ z. Contains (get_or next z []) b) (sym q.1) q.0)
  ],
  λ d. (put b a).1 (elim (cases_eq a file) [
    | inl e ↦ inr (subst (λ z. Contains (get_or next z []) b) e d.1, e)
    | inr ne ↦ inl ((inv a b).1 (omega (arith, d.0, ne), d.1))
  ]),
)

pub turned_whole : (next : List (List ℕ)) (file : ℕ) (back : List (List ℕ)) → length next ≡ file → TurnedBelow next file back → (a b : ℕ) → Contains (get_or next a []) b ↔ Contains (get_or back b []) a
turned_whole next file back e inv a b = (λ c. (inv a b).1 (let w = contains_within next a b c in omega (arith, w, e), c), λ c. ((inv a b).0 c).1)
