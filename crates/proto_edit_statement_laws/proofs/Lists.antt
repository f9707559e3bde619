-- Lists with something more in them (for the crates above).
use Rattle.std.proofs.Common.{◌≡◌, ◌⊎◌, ℕ, zero, suc, ◌+◌, ◌<◌, List, [], ◌∷◌, ◌++◌, length, get_or, map, Option, Some, refl, sym, ◌∙◌, ap, subst, inl, inr, arith, append_assoc, AllPairs, Contains, filter_map, get_or-append-add, length-append}
use Rattle.proto_base.proofs.Common.{cons_option, Contains-append_cases, Contains-append_left, Contains-append_right, filter_map-append, contains_cases, contains_head, contains_later, from_map}
use Rattle.proto_names_rules.proofs.Edited.{map_append}
use Rattle.proto_edit_statement_laws.specs.Lists.{HasMore, HasOneMore}

-- ---- elements more

module _ {A : Type 0} (P : A → Type 0) (xs ys : List A) (h : HasMore P xs ys) where
  pub more_front : (zs : List A) → HasMore P (zs ++ xs) (zs ++ ys)
  more_front zs = record {
    front = zs ++ h.front;
    more = h.more;
    back = h.back;
    was = ap (λ l. zs ++ l) h.was ∙ sym (append_assoc zs h.front h.back);
    is = ap (λ l. zs ++ l) h.is ∙ sym (append_assoc zs h.front (h.more ++ h.back));
    so = h.so;
  }

  pub more_back : (zs : List A) → HasMore P (xs ++ zs) (ys ++ zs)
  more_back zs = record {
    front = h.front;
    more = h.more;
    back = h.back ++ zs;
    was = ap (λ l. l ++ zs) h.was ∙ append_assoc h.front h.back zs;
    is = ap (λ l. l ++ zs) h.is ∙ append_assoc h.front (h.more ++ h.back) zs ∙ ap (λ l. h.front ++ l) (append_assoc h.more h.back zs);
    so = h.so;
  }

  pub more_map : {B : Type 0} (f : A → B) (Q : B → Type 0) → ((x : A) → P x → Q (f x)) → HasMore Q (map f xs) (map f ys)
  more_map f Q turn = record {
    front = map f h.front;
    more = map f h.more;
    back = map f h.back;
    was = ap (map f) h.was ∙ map_append f h.front h.back;
    is = ap (map f) h.is ∙ map_append f h.front (h.more ++ h.back) ∙ ap (λ l. map f h.front ++ l) (map_append f h.more h.back);
    so = λ y c. let x = from_map f h.more y c in subst Q x.2 (turn x.0 (h.so x.0 x.1));
  }

  -- what the first has, the second has
  pub more_has : (x : A) → Contains xs x → Contains ys x
  more_has x c = subst (λ l. Contains l x) (sym h.is) (elim (Contains-append_cases h.front h.back x (subst (λ l. Contains l x) h.was c)) [
    | inl d ↦ Contains-append_left h.front (h.more ++ h.back) x d
    | inr d ↦ Contains-append_right h.front (h.more ++ h.back) x (Contains-append_right h.more h.back x d)
  ])

  -- what the second has, the first has, or it is so
  pub more_or : (x : A) → Contains ys x → Contains xs x ⊎ P x
  more_or x c = elim (Contains-append_cases h.front (h.more ++ h.back) x (subst (λ l. Contains l x) h.is c)) [
    | inl d ↦ inl (subst (λ l. Contains l x) (sym h.was) (Contains-append_left h.front h.back x d))
    | inr d ↦ elim (Contains-append_cases h.more h.back x d) [
      | inl e ↦ inr (h.so x e)
      | inr e ↦ inl (subst (λ l. Contains l x) (sym h.was) (Contains-append_right h.front h.back x e))
    ]
  ]

-- two elements of the shorter list, in the longer one
record AreThere {A : Type 0} (xs ys : List A) (i j : ℕ) : Type 0 where
  k : ℕ
  l : ℕ
  below : k < l
  within : l < length ys
  first : (d : A) → get_or ys k d ≡ get_or xs i d
  second : (d : A) → get_or ys l d ≡ get_or xs j d

module _ {A : Type 0} (more back : List A) where
  one_there : (front : List A) (j : ℕ) → j < length (front ++ back) → (l : ℕ) × (l < length (front ++ (more ++ back))) × ((d : A) → get_or (front ++ (more ++ back)) l d ≡ get_or (front ++ back) j d)
  one_there [] j lt = (length more + j, omega (arith, lt, length-append more back), λ d. get_or-append-add more back j d)
  one_there (z ∷ front) zero lt = (0, omega arith, λ d. refl)
  one_there (z ∷ front) (suc j) lt = let r = one_there front j (omega (arith, lt)) in (suc r.0, omega (arith, r.1), r.2)

  two_there : (front : List A) (i j : ℕ) → i < j → j < length (front ++ back) → AreThere (front ++ back) (front ++ (more ++ back)) i j
  two_there [] i j b lt = record { k = length more + i; l = length more + j; below = omega (arith, b); within = omega (arith, lt, length-append more back); first = λ d. get_or-append-add more back i d; second = λ d. get_or-append-add more back j d }
  two_there (z ∷ front) i zero b lt = absurd (omega (arith, b))
  two_there (z ∷ front) zero (suc j) b lt = let r = one_there front j (omega (arith, lt)) in record { k = 0; l = suc r.0; below = omega arith; within = omega (arith, r.1); first = λ d. refl; second = r.2 }
  two_there (z ∷ front) (suc i) (suc j) b lt = let r = two_there front i j (omega (arith, b)) (omega (arith, lt)) in record { k = suc r.k; l = suc r.l; below = omega (arith, r.below); within = omega (arith, r.within); first = r.first; second = r.second }

-- what holds of each two of the longer list holds of each two of the shorter
pub more_pairs : {A : Type 0} (P : A → Type 0) (R : A → A → Type 0) (xs ys : List A) → HasMore P xs ys → AllPairs R ys → AllPairs R xs
more_pairs P R xs ys h pairs = subst (AllPairs R) (sym h.was) (λ i j d b lt.
    let r = two_there h.more h.back h.front i j b lt in
    let p = subst (AllPairs R) h.is pairs r.k r.l d r.below r.within in
    subst (λ z. R z (get_or (h.front ++ h.back) j d)) (r.first d) (subst (R (get_or (h.front ++ (h.more ++ h.back)) r.k d)) (r.second d) p))

-- ---- one element more

module _ {A : Type 0} (x : A) (xs ys : List A) (h : HasOneMore x xs ys) where
  pub one_front : (zs : List A) → HasOneMore x (zs ++ xs) (zs ++ ys)
  one_front zs = record { front = zs ++ h.front; back = h.back; was = ap (λ l. zs ++ l) h.was ∙ sym (append_assoc zs h.front h.back); is = ap (λ l. zs ++ l) h.is ∙ sym (append_assoc zs h.front (x ∷ h.back)) }

  pub one_back : (zs : List A) → HasOneMore x (xs ++ zs) (ys ++ zs)
  one_back zs = record { front = h.front; back = h.back ++ zs; was = ap (λ l. l ++ zs) h.was ∙ append_assoc h.front h.back zs; is = ap (λ l. l ++ zs) h.is ∙ append_assoc h.front (x ∷ h.back) zs }

  pub one_map : {B : Type 0} (f : A → B) → HasOneMore (f x) (map f xs) (map f ys)
  one_map f = record { front = map f h.front; back = map f h.back; was = ap (map f) h.was ∙ map_append f h.front h.back; is = ap (map f) h.is ∙ map_append f h.front (x ∷ h.back) }

  pub one_filter_map : {B : Type 0} (f : A → Option B) (y : B) → f x ≡ Some y → HasOneMore y (filter_map f xs) (filter_map f ys)
  one_filter_map f y e = record {
    front = filter_map f h.front;
    back = filter_map f h.back;
    was = ap (filter_map f) h.was ∙ filter_map-append f h.front h.back;
    is = ap (filter_map f) h.is ∙ filter_map-append f h.front (x ∷ h.back) ∙ ap (λ o. filter_map f h.front ++ cons_option o (filter_map f h.back)) e;
  }

  pub one_has : (z : A) → Contains xs z → Contains ys z
  one_has z c = subst (λ l. Contains l z) (sym h.is) (elim (Contains-append_cases h.front h.back z (subst (λ l. Contains l z) h.was c)) [
    | inl d ↦ Contains-append_left h.front (x ∷ h.back) z d
    | inr d ↦ Contains-append_right h.front (x ∷ h.back) z (contains_later x z h.back d)
  ])

  pub one_there_is : Contains ys x
  one_there_is = subst (λ l. Contains l x) (sym h.is) (Contains-append_right h.front (x ∷ h.back) x (contains_head x h.back))

  pub one_or : (z : A) → Contains ys z → Contains xs z ⊎ (x ≡ z)
  one_or z c = elim (Contains-append_cases h.front (x ∷ h.back) z (subst (λ l. Contains l z) h.is c)) [
    | inl d ↦ inl (subst (λ l. Contains l z) (sym h.was) (Contains-append_left h.front h.back z d))
    | inr d ↦ elim (contains_cases x z h.back d) [
      | inl e ↦ inr e
      | inr e ↦ inl (subst (λ l. Contains l z) (sym h.was) (Contains-append_right h.front h.back z e))
    ]
  ]
