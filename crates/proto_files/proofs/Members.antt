-- Elements of a list, by recursion on it (for the crates above).
use Rattle.std.proofs.Common.{◌≡◌, ℕ, zero, suc, ◌<◌, List, [], ◌∷◌, ◌++◌, length, get_or, refl, subst, inl, inr, ⊎_elim, arith, ◌⊎◌, All, Contains}
use Rattle.std.proofs.lemmas.List.Elements.{All-nil, All-cons, All-head, All-tail}

abbrev pub Member : {X : Type 0} → X → List X → Type 0
Member x [] = ⊥
Member x (y ∷ ys) = (y ≡ x) ⊎ Member x ys

pub Contains-from_member : {X : Type 0} (x : X) (xs : List X) → Member x xs → Contains xs x
Contains-from_member x [] h = absurd h
Contains-from_member x (y ∷ ys) (inl e) = (0, omega arith, e)
Contains-from_member x (y ∷ ys) (inr h) =
    let rest : Contains ys x = Contains-from_member x ys h in (suc rest.0, omega (arith, rest.1), rest.2)

pub member_at : {X : Type 0} (xs : List X) (k : ℕ) (d : X) → k < length xs → Member (get_or xs k d) xs
member_at [] k d h = absurd (omega arith)
member_at (y ∷ ys) zero d h = inl refl
member_at (y ∷ ys) (suc k) d h = inr (member_at ys k d (omega arith))

pub member_from_Contains : {X : Type 0} (x : X) (xs : List X) → Contains xs x → Member x xs
member_from_Contains {X} x xs h = subst (λ (y : X). Member y xs) h.2 (member_at xs h.0 x h.1)

pub All-from_members : {X : Type 0} (P : X → Type 0) (xs : List X) → ((x : X) → Member x xs → P x) → All P xs
All-from_members P [] h = All-nil P
All-from_members P (x ∷ xs) h = All-cons P x xs (h x (inl refl)) (All-from_members P xs (λ y m. h y (inr m)))

pub All-member : {X : Type 0} (P : X → Type 0) (xs : List X) (x : X) → All P xs → Member x xs → P x
All-member P [] x h m = absurd m
All-member {X} P (y ∷ ys) x h (inl e) = subst P e (All-head P y ys h)
All-member P (y ∷ ys) x h (inr m) = All-member P ys x (All-tail P y ys h) m

pub member_append : {X : Type 0} (x : X) (xs ys : List X) → Member x (xs ++ ys) → Member x xs ⊎ Member x ys
member_append x [] ys m = inr m
member_append x (z ∷ xs) ys (inl e) = inl (inl e)
member_append x (z ∷ xs) ys (inr m) = ⊎_elim (λ l. inl (inr l)) (λ r. inr r) (member_append x xs ys m)

pub member_left : {X : Type 0} (x : X) (xs ys : List X) → Member x xs → Member x (xs ++ ys)
member_left x [] ys m = absurd m
member_left x (z ∷ xs) ys (inl e) = inl e
member_left x (z ∷ xs) ys (inr m) = inr (member_left x xs ys m)

pub member_right : {X : Type 0} (x : X) (xs ys : List X) → Member x ys → Member x (xs ++ ys)
member_right x [] ys m = m
member_right x (z ∷ xs) ys m = inr (member_right x xs ys m)
