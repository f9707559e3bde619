-- General lemmas on lists, for every crate above: tests over lists, members, and words that are the same.
use Rattle.std.proofs.Common.{◌≡◌, ℕ, zero, suc, ◌<◌, Bool, true, false, cond, ◌||◌, List, [], ◌∷◌, length, get_or, refl, sym, ◌∙◌, ap, subst, inl, inr, ◌⊎◌, arith, map, flat_map, Contains, filter, find, Some, option_map, bytes_eq}
use Rattle.std.specs.List.{list_any}
use Rattle.std.proofs.lemmas.List.Folds.{Any-from_list_any, list_any_at}
use Rattle.std.proofs.lemmas.Slice.Eq.{bytes_eq-Decides}
use Rattle.std.proofs.lemmas.List.Elements.{Contains-append_cases, Contains-append_left, Contains-append_right}
use Rattle.std.proofs.lemmas.Bool.{cases_eq, cond-true, false_from_ne_true}

pub any_from : {X : Type 0} (p : X → Bool) (xs : List X) (x : X) → Contains xs x → p x ≡ true → list_any p xs ≡ true
any_from p xs x c h = list_any_at p xs c.0 x c.1 (ap p c.2 ∙ h)

pub any_to : {X : Type 0} (p : X → Bool) (xs : List X) → list_any p xs ≡ true → (x : X) × Contains xs x × (p x ≡ true)
any_to p xs h = let a = Any-from_list_any p xs h in (a.1, (a.0, a.2, a.3), a.4)

pub any_map : {X Y : Type 0} (p : Y → Bool) (f : X → Y) (xs : List X) → list_any p (map f xs) ≡ list_any (λ x. p (f x)) xs
any_map p f [] = refl
any_map p f (x ∷ xs) = ap (λ b. p (f x) || b) (any_map p f xs)

-- the tests agree at each element
pub any_agree : {X : Type 0} (p q : X → Bool) (xs : List X) → ((x : X) → p x ≡ q x) → list_any p xs ≡ list_any q xs
any_agree p q [] h = refl
any_agree p q (x ∷ xs) h = ap (λ b. b || list_any p xs) (h x) ∙ ap (λ b. q x || b) (any_agree p q xs h)

pub contains_head : {X : Type 0} (x : X) (xs : List X) → Contains (x ∷ xs) x
contains_head x xs = (0, omega arith, refl)

pub contains_later : {X : Type 0} (y x : X) (xs : List X) → Contains xs x → Contains (y ∷ xs) x
contains_later y x xs c = (suc c.0, omega (arith, c.1), c.2)

pub contains_cases : {X : Type 0} (y x : X) (xs : List X) → Contains (y ∷ xs) x → (y ≡ x) ⊎ Contains xs x
contains_cases y x xs c = go c.0 c.1 c.2
  where
    go : (k : ℕ) → k < length (y ∷ xs) → get_or (y ∷ xs) k x ≡ x → (y ≡ x) ⊎ Contains xs x
    go zero l e = inl e
    go (suc k) l e = inr (k, omega (arith, l), e)

pub contains_map : {X Y : Type 0} (f : X → Y) (xs : List X) (x : X) → Contains xs x → Contains (map f xs) (f x)
contains_map f [] x c = absurd (omega (arith, c.1))
contains_map f (y ∷ xs) x c = elim (contains_cases y x xs c) [
  | inl e ↦ subst (λ z. Contains (map f (y ∷ xs)) (f z)) e (contains_head (f y) (map f xs))
  | inr d ↦ contains_later (f y) (f x) (map f xs) (contains_map f xs x d)
]

pub from_map : {X Y : Type 0} (f : X → Y) (xs : List X) (y : Y) → Contains (map f xs) y → (x : X) × Contains xs x × (f x ≡ y)
from_map f [] y c = absurd (omega (arith, c.1))
from_map f (x ∷ xs) y c = elim (contains_cases (f x) y (map f xs) c) [
  | inl e ↦ (x, contains_head x xs, e)
  | inr d ↦ let r = from_map f xs y d in (r.0, contains_later x r.0 xs r.1, r.2)
]

-- a number is one of these, or it is none
pub contains_or_not : (ns : List ℕ) (k : ℕ) → Contains ns k ⊎ (Contains ns k → ⊥)
contains_or_not [] k = inr (λ c. omega (arith, c.1))
contains_or_not (n ∷ ns) k = elim (cases_eq n k) [
  | inl same ↦ inl (subst (Contains (n ∷ ns)) same (contains_head n ns))
  | inr other ↦ elim (contains_or_not ns k) [
    | inl later ↦ inl (contains_later n k ns later)
    | inr none ↦ inr (λ c. elim (contains_cases n k ns c) [ inl e ↦ other e | inr d ↦ none d ])
  ]
]

-- ---- lists one behind the other

pub from_flat_map : {X Y : Type 0} (f : X → List Y) (xs : List X) (y : Y) → Contains (flat_map f xs) y → (x : X) × Contains xs x × Contains (f x) y
from_flat_map f [] y c = absurd (omega (arith, c.1))
from_flat_map f (x ∷ xs) y c = elim (Contains-append_cases (f x) (flat_map f xs) y c) [
  | inl h ↦ (x, contains_head x xs, h)
  | inr h ↦ let r = from_flat_map f xs y h in (r.0, contains_later x r.0 xs r.1, r.2)
]

pub to_flat_map : {X Y : Type 0} (f : X → List Y) (xs : List X) (x : X) (y : Y) → Contains xs x → Contains (f x) y → Contains (flat_map f xs) y
to_flat_map f [] x y c h = absurd (omega (arith, c.1))
to_flat_map f (z ∷ xs) x y c h = elim (contains_cases z x xs c) [
  | inl e ↦ Contains-append_left (f z) (flat_map f xs) y (subst (λ w. Contains (f w) y) (sym e) h)
  | inr d ↦ Contains-append_right (f z) (flat_map f xs) y (to_flat_map f xs x y d h)
]

-- ---- what passes a test

pub contains_filter : {X : Type 0} (p : X → Bool) (xs : List X) (x : X) → Contains xs x → p x ≡ true → Contains (filter p xs) x
contains_filter p [] x c h = absurd (omega (arith, c.1))
contains_filter p (y ∷ xs) x c h = elim (contains_cases y x xs c) [
  | inl e ↦ subst (λ l. Contains l x) (sym (cond-true (p y) (y ∷ filter p xs) (filter p xs) (ap p e ∙ h))) (subst (λ z. Contains (z ∷ filter p xs) x) (sym e) (contains_head x (filter p xs)))
  | inr d ↦ go (p y) (contains_filter p xs x d h)
]
  where
    go : (b : Bool) → Contains (filter p xs) x → Contains (cond b (y ∷ filter p xs) (filter p xs)) x
    go true c = contains_later y x (filter p xs) c
    go false c = c

pub from_filter : {X : Type 0} (p : X → Bool) (xs : List X) (x : X) → Contains (filter p xs) x → Contains xs x × (p x ≡ true)
from_filter p [] x c = absurd (omega (arith, c.1))
from_filter p (y ∷ xs) x c = go (p y) refl (from_filter p xs x) c
  where
    go : (b : Bool) → p y ≡ b → (Contains (filter p xs) x → Contains xs x × (p x ≡ true)) → Contains (cond b (y ∷ filter p xs) (filter p xs)) x → Contains (y ∷ xs) x × (p x ≡ true)
    go true e ih c = elim (contains_cases y x (filter p xs) c) [
      | inl s ↦ (subst (λ z. Contains (z ∷ xs) x) (sym s) (contains_head x xs), ap p (sym s) ∙ e)
      | inr d ↦ let r = ih d in (contains_later y x xs r.0, r.1)
    ]
    go false e ih c = let r = ih c in (contains_later y x xs r.0, r.1)

-- what is found in a mapped list is the image of what is found
pub found_in_map : {A B : Type 0} (p : B → Bool) (f : A → B) (xs : List A) → find p (map f xs) ≡ option_map f (find (λ x. p (f x)) xs)
found_in_map p f [] = refl
found_in_map p f (x ∷ xs) = by (p (f x)) (found_in_map p f xs)
  where
    by : (b : Bool) → find p (map f xs) ≡ option_map f (find (λ x. p (f x)) xs) → cond b (Some (f x)) (find p (map f xs)) ≡ option_map f (cond b (Some x) (find (λ x. p (f x)) xs))
    by true e = refl
    by false e = e

pub word_from_same : (x y : List ℕ) → bytes_eq x y ≡ true → x ≡ y
word_from_same x y h = (bytes_eq-Decides x y).0 h

pub same_from_word : (x y : List ℕ) → x ≡ y → bytes_eq x y ≡ true
same_from_word x y h = (bytes_eq-Decides x y).1 h

pub fails_from : (t : Bool) → (t ≡ true → ⊥) → t ≡ false
fails_from t h = false_from_ne_true t h
