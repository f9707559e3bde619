-- Filtered lists, of which what goes or comes does not pass, and lists of which one element is changed.
use Rattle.std.proofs.Common.{◌≡◌, ℕ, zero, suc, ◌<◌, ◌⊎◌, inl, inr, Bool, true, false, cond, List, [], ◌∷◌, ◌++◌, length, get_or, map, take, drop, refl, sym, ◌∙◌, ap, subst, arith, Contains, if◌then◌else◌}
use Rattle.std.specs.List.{filter}
use Rattle.proto_base.proofs.Common.{contains_cases, contains_filter, contains_head, contains_later, filter-append, from_filter}
use Rattle.std.proofs.Common.{take-append-drop}
use Rattle.proto_edit_rules.specs.Statements.{at_place, changed_at, places_before, with_more, without_place}

-- ---- what does not pass

pub none_passes : {X : Type 0} (p : X → Bool) (xs : List X) → ((x : X) → Contains xs x → p x ≡ false) → filter p xs ≡ []
none_passes p [] h = refl
none_passes p (x ∷ xs) h = ap (λ b. cond b (x ∷ filter p xs) (filter p xs)) (h x (contains_head x xs)) ∙ none_passes p xs (λ y c. h y (contains_later x y xs c))

-- an element goes
pub none_goes : {X : Type 0} (p : X → Bool) (n : ℕ) (xs : List X) → filter p (at_place n xs) ≡ [] → filter p (without_place n xs) ≡ filter p xs
none_goes p zero [] e = refl
none_goes p zero (x ∷ xs) e = by (p x) e
  where
    by : (b : Bool) → cond b (x ∷ []) [] ≡ [] → filter p xs ≡ cond b (x ∷ filter p xs) (filter p xs)
    by true e = absurd cc
    by false e = refl
none_goes p (suc n) [] e = refl
none_goes p (suc n) (x ∷ xs) e = ap (λ ys. cond (p x) (x ∷ ys) ys) (none_goes p n xs e)

-- elements come
pub none_comes : {X : Type 0} (p : X → Bool) (n : ℕ) (more xs : List X) → filter p more ≡ [] → filter p (with_more n more xs) ≡ filter p xs
none_comes p n more xs e =
    filter-append p (take n xs) (more ++ drop n xs)
    ∙ ap (λ ys. filter p (take n xs) ++ ys) (filter-append p more (drop n xs) ∙ ap (λ ys. ys ++ filter p (drop n xs)) e)
    ∙ sym (filter-append p (take n xs) (drop n xs))
    ∙ ap (filter p) (take-append-drop n xs)

-- what passes stays
pub passes_stays : {X : Type 0} (p : X → Bool) (n : ℕ) (xs : List X) → filter p (at_place n xs) ≡ [] → (x : X) → Contains xs x → p x ≡ true → Contains (without_place n xs) x
passes_stays p n xs e x c t = (from_filter p (without_place n xs) x (subst (λ ys. Contains ys x) (sym (none_goes p n xs e)) (contains_filter p xs x c t))).0

-- what is left was there
pub left_there : {X : Type 0} (n : ℕ) (xs : List X) (x : X) → Contains (without_place n xs) x → Contains xs x
left_there zero [] x c = c
left_there zero (y ∷ xs) x c = contains_later y x xs c
left_there (suc n) [] x c = c
left_there (suc n) (y ∷ xs) x c = elim (contains_cases y x (without_place n xs) c) [
  | inl e ↦ subst (λ z. Contains (y ∷ xs) z) e (contains_head y xs)
  | inr later ↦ contains_later y x xs (left_there n xs x later)
]

-- ---- an element by its place

pub placed_map : {X Y : Type 0} (f : X → Y) (n : ℕ) (xs : List X) → at_place n (map f xs) ≡ map f (at_place n xs)
placed_map f zero [] = refl
placed_map f zero (x ∷ xs) = refl
placed_map f (suc n) [] = refl
placed_map f (suc n) (x ∷ xs) = placed_map f n xs

-- at the first place at which it is so, it is so
pub placed_so : {X : Type 0} (is_so : X → Bool) (xs : List X) (x : X) → Contains (at_place (places_before is_so xs) xs) x → is_so x ≡ true
placed_so is_so [] x c = absurd (omega (arith, c.1))
placed_so is_so (y ∷ ys) x c = by (placed_so is_so ys x) (is_so y) refl c
  where
    by : (Contains (at_place (places_before is_so ys) ys) x → is_so x ≡ true) → (b : Bool) → is_so y ≡ b → Contains (at_place (if b then 0 else suc (places_before is_so ys)) (y ∷ ys)) x → is_so x ≡ true
    by later true e c = elim (contains_cases y x [] c) [
      | inl same ↦ subst (λ z. is_so z ≡ true) same e
      | inr none ↦ absurd (omega (arith, none.1))
    ]
    by later false e c = later c

-- ---- one element is changed

-- it stands at this place
abbrev pub StandsAt : {X : Type 0} → ℕ → List X → X → Type 0
StandsAt n xs x = (n < length xs) × (get_or xs n x ≡ x)

-- an element of the new list is one of the old, or is made of that at the place
pub changed_from : {X : Type 0} (n : ℕ) (f : X → X) (xs : List X) (y : X) → Contains (changed_at n f xs) y → (x : X) × Contains xs x × ((y ≡ x) ⊎ (StandsAt n xs x × (y ≡ f x)))
changed_from n f [] y c = absurd (omega (arith, c.1))
changed_from zero f (x ∷ xs) y c = elim (contains_cases (f x) y xs c) [
  | inl e ↦ (x, contains_head x xs, inr ((omega arith, refl), sym e))
  | inr later ↦ (y, contains_later x y xs later, inl refl)
]
changed_from {X} (suc n) f (x ∷ xs) y c = elim (contains_cases x y (changed_at n f xs) c) [
  | inl e ↦ (x, contains_head x xs, inl (sym e))
  | inr later ↦ behind (changed_from n f xs y later)
]
  where
    behind : (z : X) × Contains xs z × ((y ≡ z) ⊎ (StandsAt n xs z × (y ≡ f z))) → (z : X) × Contains (x ∷ xs) z × ((y ≡ z) ⊎ (StandsAt (suc n) (x ∷ xs) z × (y ≡ f z)))
    behind r = (
      r.0,
      contains_later x r.0 xs r.1,
      elim r.2 [
        | inl e ↦ inl e
        | inr s ↦ inr ((omega (arith, s.0.0), s.0.1), s.1)
      ],
    )

-- each old one is in the new list, or what is made of it
pub changed_to : {X : Type 0} (n : ℕ) (f : X → X) (xs : List X) (x : X) → Contains xs x → Contains (changed_at n f xs) x ⊎ (StandsAt n xs x × Contains (changed_at n f xs) (f x))
changed_to n f [] x c = absurd (omega (arith, c.1))
changed_to zero f (y ∷ xs) x c = elim (contains_cases y x xs c) [
  | inl e ↦ inr ((omega arith, e), subst (λ z. Contains (f y ∷ xs) (f z)) e (contains_head (f y) xs))
  | inr later ↦ inl (contains_later (f y) x xs later)
]
changed_to (suc n) f (y ∷ xs) x c = elim (contains_cases y x xs c) [
  | inl e ↦ inl (subst (λ z. Contains (y ∷ changed_at n f xs) z) e (contains_head y (changed_at n f xs)))
  | inr later ↦ elim (changed_to n f xs x later) [
    | inl same ↦ inl (contains_later y x (changed_at n f xs) same)
    | inr made ↦ inr ((omega (arith, made.0.0), made.0.1), contains_later y (f x) (changed_at n f xs) made.1)
  ]
]
