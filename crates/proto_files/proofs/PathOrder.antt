-- The order of paths: total, strict, and counts of the paths up to one (for the crates above).
use Rattle.std.proofs.Common.{◌≡◌, ℕ, zero, suc, ◌+◌, ◌<◌, ◌≤◌, Bool, true, false, cond, not, List, [], ◌∷◌, length, get_or, refl, sym, ap, ◌∙◌, subst, inl, inr, ⊎_elim, arith, ◌⊎◌, is_eq, is_lt, count_by, bytes_eq}
use Rattle.proto_base.proofs.Common.{Ordering, Less, Equal, Greater, ordering_reverse, texts_ties, nat_list_cmp_total, tied_itself, bytes_eq-Decides, sum_by-cons}
use Rattle.proto_files.specs.WorkspacePaths.{path_cmp, IsBefore, IsInPathOrder}
use Rattle.proto_files.proofs.Members.{Member, All-member, member_at}

pub never_before_itself : (p : List ℕ) → IsBefore p p → ⊥
never_before_itself p h = let e : path_cmp p p ≡ Equal = tied_itself nat_list_cmp_total p in cc

pub before_trans : (p q r : List ℕ) → IsBefore p q → IsBefore q r → IsBefore p r
before_trans p q r a b = nat_list_cmp_total.trans p q r a b

pub same_from_equal : (p q : List ℕ) → path_cmp p q ≡ Equal → p ≡ q
same_from_equal p q h = (bytes_eq-Decides p q).0 (texts_ties p q ∙ ap is_eq h)

-- one of two paths is before the other, or they are the same
pub sides : (p q : List ℕ) → IsBefore p q ⊎ ((p ≡ q) ⊎ IsBefore q p)
sides p q = go (path_cmp p q) refl where
  go : (o : Ordering) → path_cmp p q ≡ o → IsBefore p q ⊎ ((p ≡ q) ⊎ IsBefore q p)
  go Less e = inl e
  go Equal e = inr (inl (same_from_equal p q e))
  go Greater e = inr (inr (nat_list_cmp_total.antisymm q p ∙ ap ordering_reverse e))

-- a path that another is not before, and that is not it, is before it
pub before_from_sides : (p q : List ℕ) → (IsBefore q p → ⊥) → (p ≡ q → ⊥) → IsBefore p q
before_from_sides p q not_back apart = ⊎_elim (λ h. h) (λ more. ⊎_elim (λ e. absurd (apart e)) (λ h. absurd (not_back h)) more) (sides p q)

-- before a path that is not behind another
pub before_at_most : (p q r : List ℕ) → IsBefore p q → (IsBefore r q → ⊥) → IsBefore p r
before_at_most p q r a not_back =
    ⊎_elim (λ h. before_trans p q r a h)
    (λ more. ⊎_elim (λ (e : q ≡ r). subst (λ (x : List ℕ). IsBefore p x) e a) (λ h. absurd (not_back h)) more) (sides q r)

-- each path is before those behind it
abbrev pub PathsRise : List (List ℕ) → Type 0
PathsRise [] = Unit {0}
PathsRise (p ∷ ps) = ((q : List ℕ) → Member q ps → IsBefore p q) × PathsRise ps

-- counts
pub count-cons : {X : Type 0} (t : X → Bool) (x : X) (xs : List X) → count_by t (x ∷ xs) ≡ cond (t x) 1 0 + count_by t xs
count-cons t x xs = sum_by-cons (λ y. cond (t y) 1 0) x xs

pub count_none : (t : List ℕ → Bool) (ps : List (List ℕ)) → ((q : List ℕ) → Member q ps → t q ≡ false) → count_by t ps ≡ 0
count_none t [] h = refl
count_none t (p ∷ ps) h = count-cons t p ps ∙ ap (λ b. cond b 1 0 + count_by t ps) (h p (inl refl)) ∙ ap (λ n. 0 + n) (count_none t ps (λ q m. h q (inr m)))

pub bytes_apart : (p q : List ℕ) → (p ≡ q → ⊥) → bytes_eq p q ≡ false
bytes_apart p q apart = go (bytes_eq p q) refl where
  go : (b : Bool) → bytes_eq p q ≡ b → b ≡ false
  go true e = absurd (apart ((bytes_eq-Decides p q).0 e))
  go false e = refl

-- no path is twice among paths that rise
pub count_once : (p : List ℕ) (ps : List (List ℕ)) → PathsRise ps → count_by (bytes_eq p) ps ≤ 1
count_once p [] h = omega arith
count_once p (q ∷ qs) h = go (count_once p qs h.1) (bytes_eq p q) refl where
  go : count_by (bytes_eq p) qs ≤ 1 → (b : Bool) → bytes_eq p q ≡ b → count_by (bytes_eq p) (q ∷ qs) ≤ 1
  go more true e =
      let is : p ≡ q = (bytes_eq-Decides p q).0 e in
      let none : count_by (bytes_eq p) qs ≡ 0 = count_none (bytes_eq p) qs (λ r m. bytes_apart p r (λ pr. never_before_itself q (subst (λ (x : List ℕ). IsBefore q x) (sym pr ∙ is) (h.0 r m)))) in
      omega (arith, count-cons (bytes_eq p) q qs ∙ ap (λ c. cond c 1 0 + count_by (bytes_eq p) qs) e, none)
  go more false e = omega (arith, count-cons (bytes_eq p) q qs ∙ ap (λ c. cond c 1 0 + count_by (bytes_eq p) qs) e, more)

-- whether a path is not behind another
abbrev pub is_up_to : List ℕ → List ℕ → Bool
is_up_to p q = not (is_lt (path_cmp p q))

up_to_from : (p q : List ℕ) → (IsBefore p q → ⊥) → is_up_to p q ≡ true
up_to_from p q not_front = go (path_cmp p q) refl where
  go : (o : Ordering) → path_cmp p q ≡ o → not (is_lt o) ≡ true
  go Less e = absurd (not_front e)
  go Equal e = refl
  go Greater e = refl

pub not_up_to : (p q : List ℕ) → IsBefore p q → is_up_to p q ≡ false
not_up_to p q h = ap (λ o. not (is_lt o)) h

-- among paths in order, more than k are up to the one at place k
pub count_up_to : (ps : List (List ℕ)) (k : ℕ) (p : List ℕ) → IsInPathOrder ps → k < length ps → get_or ps k p ≡ p → k < count_by (is_up_to p) ps
count_up_to [] k p h lt at = absurd (omega arith)
count_up_to (q ∷ qs) zero p h lt at =
    let here : is_up_to p q ≡ true = up_to_from p q (λ b. never_before_itself p (subst (λ (x : List ℕ). IsBefore p x) at b)) in
    omega (arith, count-cons (is_up_to p) q qs ∙ ap (λ c. cond c 1 0 + count_by (is_up_to p) qs) here)
count_up_to (q ∷ qs) (suc k) p h lt at =
    let lt' : k < length qs = omega arith in
    let m : Member p qs = subst (λ (x : List ℕ). Member x qs) at (member_at qs k p lt') in
    let here : is_up_to p q ≡ true = up_to_from p q (All-member (λ r. IsBefore r q → ⊥) qs p h.0 m) in
    omega (arith, count-cons (is_up_to p) q qs ∙ ap (λ c. cond c 1 0 + count_by (is_up_to p) qs) here, count_up_to qs k p h.1 lt' at)
