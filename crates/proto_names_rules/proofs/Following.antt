-- One element of a list behind another, as lists are mapped, and as they lose elements (for the crates above).
use Rattle.std.proofs.Common.{◌≡◌, ◌⊎◌, ℕ, zero, suc, ◌<◌, Bool, true, false, cond, List, [], ◌∷◌, length, get_or, map, refl, sym, ◌∙◌, ap, subst, inl, inr, arith, Contains, filter}
use Rattle.proto_base.proofs.Common.{cond-true, Contains-get_or, contains_filter, contains_head, contains_later, contains_map, from_filter, from_map}
use Rattle.proto_names_rules.specs.Faults.{AfterEarlier}

-- the second stands behind the first
abbrev pub Follows : {A : Type 0} → List A → A → A → Type 0
Follows {A} [] x y = ⊥
Follows {A} (z ∷ zs) x y = ((z ≡ x) × Contains zs y) ⊎ Follows zs x y

follows_at : {A : Type 0} (xs : List A) (i j : ℕ) (d : A) → i < j → j < length xs → Follows xs (get_or xs i d) (get_or xs j d)
follows_at [] i j d b l = absurd (omega (arith, l))
follows_at (z ∷ zs) zero zero d b l = absurd (omega (arith, b))
follows_at (z ∷ zs) zero (suc j) d b l = inl (refl, Contains-get_or zs j d (omega (arith, l)))
follows_at (z ∷ zs) (suc i) zero d b l = absurd (omega (arith, b))
follows_at (z ∷ zs) (suc i) (suc j) d b l = inr (follows_at zs i j d (omega (arith, b)) (omega (arith, l)))

pub follows_after : {A : Type 0} (R : A → A → Type 0) (xs : List A) (y : A) → AfterEarlier R xs y → (x : A) × Follows xs x y × R x y
follows_after R xs y (i, j, d, below, l, is, r) = (get_or xs i d, subst (Follows xs (get_or xs i d)) is (follows_at xs i j d below l), r)

pub after_follows : {A : Type 0} (R : A → A → Type 0) (xs : List A) (x y : A) → Follows xs x y → R x y → AfterEarlier R xs y
after_follows {A} R [] x y h r = absurd h
after_follows {A} R (z ∷ zs) x y (inl h) r = (0, suc h.1.0, y, omega arith, omega (arith, h.1.1), h.1.2, subst (λ a. R a y) (sym h.0) r)
after_follows {A} R (z ∷ zs) x y (inr h) r =
    let a = after_follows R zs x y h r in
    (suc a.0, suc a.1, a.2, omega (arith, a.3), omega (arith, a.4), a.5, a.6)

pub follows_first : {A : Type 0} (xs : List A) (x y : A) → Follows xs x y → Contains xs x
follows_first [] x y h = absurd h
follows_first (z ∷ zs) x y (inl h) = subst (Contains (z ∷ zs)) h.0 (contains_head z zs)
follows_first (z ∷ zs) x y (inr h) = contains_later z x zs (follows_first zs x y h)

pub follows_second : {A : Type 0} (xs : List A) (x y : A) → Follows xs x y → Contains xs y
follows_second [] x y h = absurd h
follows_second (z ∷ zs) x y (inl h) = contains_later z y zs h.1
follows_second (z ∷ zs) x y (inr h) = contains_later z y zs (follows_second zs x y h)

-- ---- mapped

pub follows_map : {A B : Type 0} (g : A → B) (xs : List A) (x y : A) → Follows xs x y → Follows (map g xs) (g x) (g y)
follows_map g [] x y h = absurd h
follows_map g (z ∷ zs) x y (inl h) = inl (ap g h.0, contains_map g zs y h.1)
follows_map g (z ∷ zs) x y (inr h) = inr (follows_map g zs x y h)

pub map_follows : {A B : Type 0} (g : A → B) (xs : List A) (u v : B) → Follows (map g xs) u v
    → (x y : A) × Follows xs x y × (g x ≡ u) × (g y ≡ v)
map_follows g [] u v h = absurd h
map_follows g (z ∷ zs) u v (inl h) = let r = from_map g zs v h.1 in (z, r.0, inl (refl, r.1), h.0, r.2)
map_follows g (z ∷ zs) u v (inr h) = let r = map_follows g zs u v h in (r.0, r.1, inr r.2, r.3, r.4)

-- ---- kept

pub follows_kept : {A : Type 0} (p : A → Bool) (xs : List A) (x y : A) → Follows xs x y → p x ≡ true → p y ≡ true → Follows (filter p xs) x y
follows_kept p [] x y h px py = absurd h
follows_kept {A} p (z ∷ zs) x y (inl h) px py =
    subst (λ (ks : List A). Follows ks x y) (sym (cond-true (p z) (z ∷ filter p zs) (filter p zs) (ap p h.0 ∙ px))) (inl (h.0, contains_filter p zs y h.1 py))
follows_kept p (z ∷ zs) x y (inr h) px py = go (p z) (follows_kept p zs x y h px py)
  where
    go : (b : Bool) → Follows (filter p zs) x y → Follows (cond b (z ∷ filter p zs) (filter p zs)) x y
    go true k = inr k
    go false k = k

pub kept_follows : {A : Type 0} (p : A → Bool) (xs : List A) (x y : A) → Follows (filter p xs) x y → Follows xs x y
kept_follows p [] x y h = h
kept_follows {A} p (z ∷ zs) x y h = go (kept_follows p zs x y) (p z) h
  where
    go : (Follows (filter p zs) x y → Follows zs x y) → (b : Bool) → Follows (cond b (z ∷ filter p zs) (filter p zs)) x y → Follows (z ∷ zs) x y
    go back true k = elim k [ inl a ↦ inl (a.0, (from_filter p zs y a.1).0) | inr r ↦ inr (back r) ]
    go back false k = inr (back k)

pub filter_agree : {A : Type 0} (p q : A → Bool) (xs : List A) → ((x : A) → p x ≡ q x) → filter p xs ≡ filter q xs
filter_agree p q [] h = refl
filter_agree {A} p q (x ∷ xs) h = ap (λ b. cond b (x ∷ filter p xs) (filter p xs)) (h x) ∙ ap (λ (ks : List A). cond (q x) (x ∷ ks) ks) (filter_agree p q xs h)

pub filter_of_map : {A B : Type 0} (p : B → Bool) (g : A → B) (xs : List A) → filter p (map g xs) ≡ map g (filter (λ x. p (g x)) xs)
filter_of_map p g [] = refl
filter_of_map {A} {B} p g (x ∷ xs) = ap (λ (ks : List B). cond (p (g x)) (g x ∷ ks) ks) (filter_of_map p g xs) ∙ go (p (g x))
  where
    go : (b : Bool) → cond b (g x ∷ map g (filter (λ x. p (g x)) xs)) (map g (filter (λ x. p (g x)) xs)) ≡ map g (cond b (x ∷ filter (λ x. p (g x)) xs) (filter (λ x. p (g x)) xs))
    go true = refl
    go false = refl
