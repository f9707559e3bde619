-- Elements that rise make one list.
use Rattle.std.proofs.Common.{◌≡◌, suc, List, [], ◌∷◌, refl, sym, ap, ◌∙◌, subst, inl, inr, ⊎_elim, arith, AllPairs, Contains}
use Rattle.proto_files.proofs.Members.{Member, Contains-from_member, member_from_Contains}

module _ {A : Type 0} (Before : A → A → Type 0) (never : (x : A) → Before x x → ⊥) (chain : (x y z : A) → Before x y → Before y z → Before x z) where
  -- each element is before those behind it
  abbrev Rise : List A → Type 0
  Rise [] = Unit {0}
  Rise (x ∷ xs) = ((y : A) → Member y xs → Before x y) × Rise xs

  rise : (xs : List A) → AllPairs Before xs → Rise xs
  rise [] h = tt
  rise (x ∷ xs) h = (
    (λ y m. let at : Contains xs y = Contains-from_member y xs m in subst (Before x) at.2 (h 0 (suc at.0) y (omega arith) (omega (arith, at.1)))),
    rise xs (λ i j d lt within. h (suc i) (suc j) d (omega arith) (omega arith)),
  )

  one_rise : (xs ys : List A) → Rise xs → Rise ys → ((z : A) → Member z xs → Member z ys) → ((z : A) → Member z ys → Member z xs) → xs ≡ ys
  one_rise [] [] p q to from = refl
  one_rise [] (y ∷ ys) p q to from = absurd (from y (inl refl))
  one_rise (x ∷ xs) [] p q to from = absurd (to x (inl refl))
  one_rise (x ∷ xs) (y ∷ ys) p q to from =
      let first : y ≡ x =
      ⊎_elim (λ e. e) (λ (m : Member x ys). ⊎_elim (λ (e : x ≡ y). sym e) (λ (n : Member y xs). absurd (never x (chain x y x (p.0 y n) (q.0 x m)))) (from y (inl refl))) (to x (inl refl)) in
      let forth : (z : A) → Member z xs → Member z ys = λ z m. ⊎_elim (λ (e : y ≡ z). absurd (never x (subst (Before x) (sym e ∙ first) (p.0 z m)))) (λ n. n) (to z (inr m)) in
      let back : (z : A) → Member z ys → Member z xs = λ z m. ⊎_elim (λ (e : x ≡ z). absurd (never y (subst (Before y) (sym e ∙ sym first) (q.0 z m)))) (λ n. n) (from z (inr m)) in
      ap (λ (z : A). z ∷ xs) (sym first) ∙ ap (λ (zs : List A). y ∷ zs) (one_rise xs ys p.1 q.1 forth back)

  -- two lists that rise and have the same elements are the same
  pub one_list : (xs ys : List A) → AllPairs Before xs → AllPairs Before ys → ((z : A) → Contains xs z → Contains ys z) → ((z : A) → Contains ys z → Contains xs z) → xs ≡ ys
  one_list xs ys p q to from =
      one_rise xs ys (rise xs p) (rise ys q) (λ z m. member_from_Contains z ys (to z (Contains-from_member z xs m))) (λ z m. member_from_Contains z xs (from z (Contains-from_member z ys m)))
