-- Flaws that have no effect on the least: those at whose token another stands with a smaller number (for the crates above).
use Rattle.std.proofs.Common.{◌≡◌, ◌⊎◌, ℕ, ◌<◌, nat_lt, Bool, true, false, ◌&&◌, ◌||◌, ◌==◌, if◌then◌else◌, List, [], ◌∷◌, ◌++◌, map, flat_map, Option, Some, None, refl, sym, ◌∙◌, ap, subst, inl, inr, arith, Contains}
use Rattle.proto_base.proofs.Common.{list_any, or_cases, nat_tests, Contains-append_cases, Contains-append_left, Contains-append_right, list_any-append, contains_cases, contains_head, contains_later, kind_number}
use Rattle.proto_base.specs.declared.fault.FaultKind.{FaultKind}
use Rattle.proto_desc_numbers.specs.Common.{Flaw, flaw, flaw_if, earlier, marked, comes_before, IsLeastOfFlaws}

-- another one at its token has a smaller number
abbrev pub Beneath : List Flaw → Flaw → Type 0
Beneath zs x = (y : Flaw) × Contains zs y × (y.token ≡ x.token) × (kind_number y.kind < kind_number x.kind)

-- what is in xs and not in ys has no effect beside zs
pub record Covered (zs xs ys : List Flaw) : Type 0 where
  pub each : (x : Flaw) → Contains xs x → Contains ys x ⊎ Beneath zs x

pub covered_equal : (zs xs ys : List Flaw) → xs ≡ ys → Covered zs xs ys
covered_equal zs xs ys e = record { each = λ x c. inl (subst (λ (l : List Flaw). Contains l x) e c) }

pub covered_join : (zs xs ys vs ws : List Flaw) → Covered zs xs ys → Covered zs vs ws → Covered zs (xs ++ vs) (ys ++ ws)
covered_join zs xs ys vs ws h k = record { each = λ x c. go x (Contains-append_cases xs vs x c) }
  where
    left : (x : Flaw) → Contains ys x ⊎ Beneath zs x → Contains (ys ++ ws) x ⊎ Beneath zs x
    left x (inl d) = inl (Contains-append_left ys ws x d)
    left x (inr b) = inr b

    right : (x : Flaw) → Contains ws x ⊎ Beneath zs x → Contains (ys ++ ws) x ⊎ Beneath zs x
    right x (inl d) = inl (Contains-append_right ys ws x d)
    right x (inr b) = inr b

    go : (x : Flaw) → Contains xs x ⊎ Contains vs x → Contains (ys ++ ws) x ⊎ Beneath zs x
    go x (inl d) = left x (h.each x d)
    go x (inr d) = right x (k.each x d)

pub covered_more : (zs us xs ys : List Flaw) → ((y : Flaw) → Contains zs y → Contains us y) → Covered zs xs ys → Covered us xs ys
covered_more zs us xs ys more h = record { each = λ x c. go x (h.each x c) }
  where
    go : (x : Flaw) → Contains ys x ⊎ Beneath zs x → Contains ys x ⊎ Beneath us x
    go x (inl d) = inl d
    go x (inr b) = inr (b.0, more b.0 b.1, b.2, b.3)

pub covered_unless : (b : Bool) (zs xs ys : List Flaw) → Covered zs xs ys → Covered zs (if b then [] else xs) (if b then [] else ys)
covered_unless true zs xs ys h = covered_equal zs [] [] refl
covered_unless false zs xs ys h = h

pub covered_flat : {A : Type 0} (f g : A → List Flaw) → ((a : A) → Covered (g a) (f a) (g a)) → (items : List A) → Covered (flat_map g items) (flat_map f items) (flat_map g items)
covered_flat f g h [] = covered_equal [] [] [] refl
covered_flat f g h (a ∷ items) =
    covered_join (g a ++ flat_map g items) (f a) (g a) (flat_map f items) (flat_map g items)
    (covered_more (g a) (g a ++ flat_map g items) (f a) (g a) (λ y c. Contains-append_left (g a) (flat_map g items) y c) (h a))
    (covered_more (flat_map g items) (g a ++ flat_map g items) (flat_map f items) (flat_map g items) (λ y c. Contains-append_right (g a) (flat_map g items) y c) (covered_flat f g h items))

-- ---- the least

smaller_clash : (s t m n : ℕ) → s ≡ t → m < n → (nat_lt s t || (s == t && nat_lt m n)) ≡ false → ⊥
smaller_clash s t m n e l h = grind (arith, nat_tests)

no_later : (s t u m n k : ℕ) → s ≡ t → m < n → (nat_lt s u || (s == u && nat_lt m k)) ≡ false → (nat_lt t u || (t == u && nat_lt n k)) ≡ false
no_later s t u m n k e l h = grind (arith, nat_tests)

-- the least of one list is the least of the other
module _ (xs ys : List Flaw) (forth : Covered ys xs ys) (back : Covered xs ys xs) where
  clash : (x l : Flaw) → x.token ≡ l.token → kind_number x.kind < kind_number l.kind → comes_before x l ≡ false → ⊥
  clash x l e s h = smaller_clash x.token l.token (kind_number x.kind) (kind_number l.kind) e s h

  under_least : (l : Flaw) → ((x : Flaw) → Contains xs x → comes_before x l ≡ false) → Beneath ys l → ⊥
  under_least l least b = go (back.each b.0 b.1)
    where
      go : Contains xs b.0 ⊎ Beneath xs b.0 → ⊥
      go (inl d) = clash b.0 l b.2 b.3 (least b.0 d)
      go (inr a) = let m = a.3 in let n = b.3 in clash a.0 l (a.2 ∙ b.2) (omega (arith, m, n)) (least a.0 a.1)

  pub least_kept : (r : Option Flaw) → IsLeastOfFlaws (Contains xs) r → IsLeastOfFlaws (Contains ys) r
  least_kept None h = λ x c. go x (back.each x c)
    where
      go : (x : Flaw) → Contains xs x ⊎ Beneath xs x → ⊥
      go x (inl d) = h x d
      go x (inr b) = h b.0 b.1
  least_kept (Some l) h = (here (forth.each l h.0), λ x c. other x (back.each x c))
    where
      here : Contains ys l ⊎ Beneath ys l → Contains ys l
      here (inl d) = d
      here (inr b) = absurd (under_least l h.1 b)

      other : (x : Flaw) → Contains xs x ⊎ Beneath xs x → comes_before x l ≡ false
      other x (inl d) = h.1 x d
      other x (inr b) = no_later b.0.token x.token l.token (kind_number b.0.kind) (kind_number x.kind) (kind_number l.kind) b.2 b.3 (h.1 b.0 b.1)

-- ---- single flaws

pub flaw_here : (b : Bool) (kind : FaultKind) (t : ℕ) → b ≡ true → Contains (flaw_if b kind t) (flaw kind t)
flaw_here b kind t e = subst (λ (v : Bool). Contains (flaw_if v kind t) (flaw kind t)) (sym e) (contains_head (flaw kind t) [])

pub covered_if : (zs : List Flaw) (kind : FaultKind) (t : ℕ) (p q : Bool) → (p ≡ true → (q ≡ true) ⊎ Beneath zs (flaw kind t)) → Covered zs (flaw_if p kind t) (flaw_if q kind t)
covered_if zs kind t false q h = record { each = λ x c. absurd (omega (arith, c.1)) }
covered_if zs kind t true q h = go (h refl)
  where
    one : (x : Flaw) → Beneath zs (flaw kind t) → (flaw kind t ≡ x) ⊎ Contains [] x → Contains (flaw_if q kind t) x ⊎ Beneath zs x
    one x b (inl e) = inr (subst (Beneath zs) e b)
    one x b (inr c) = absurd (omega (arith, c.1))

    go : (q ≡ true) ⊎ Beneath zs (flaw kind t) → Covered zs (flaw kind t ∷ []) (flaw_if q kind t)
    go (inl e) = covered_equal zs (flaw kind t ∷ []) (flaw_if q kind t) (ap (λ v. flaw_if v kind t) (sym e))
    go (inr b) = record { each = λ x c. one x b (contains_cases (flaw kind t) x [] c) }

pub contains_flat : {A X : Type 0} (f : A → List X) (items : List A) (a : A) (x : X) → Contains items a → Contains (f a) x → Contains (flat_map f items) x
contains_flat f [] a x c h = absurd (omega (arith, c.1))
contains_flat f (b ∷ items) a x c h = elim (contains_cases b a items c) [
  | inl e ↦ Contains-append_left (f b) (flat_map f items) x (subst (λ z. Contains (f z) x) (sym e) h)
  | inr d ↦ Contains-append_right (f b) (flat_map f items) x (contains_flat f items a x d h)
]

-- ---- flaws at the tokens of what is so with an earlier one

module _ {A K : Type 0} (zs : List Flaw) (so : K → K → Bool) (kind : FaultKind) (tok : A → ℕ) (key other : A → K) (all : List A)
    (still : (a b : A) → Contains all b → so (key a) (key b) ≡ true → (so (other a) (other b) ≡ true) ⊎ Beneath zs (flaw kind (tok b))) where
  -- what is so with one of the first is so with one of the second
  abbrev pub Passes : List K → List K → Type 0
  Passes ps qs = (b : A) → Contains all b → list_any (λ p. so p (key b)) ps ≡ true → (list_any (λ q. so q (other b)) qs ≡ true) ⊎ Beneath zs (flaw kind (tok b))

  any_left : (b : A) (qs rs : List K) → (list_any (λ q. so q (other b)) qs ≡ true) ⊎ Beneath zs (flaw kind (tok b)) → (list_any (λ q. so q (other b)) (qs ++ rs) ≡ true) ⊎ Beneath zs (flaw kind (tok b))
  any_left b qs rs (inl e) = inl (list_any-append (λ q. so q (other b)) qs rs ∙ ap (λ v. v || list_any (λ q. so q (other b)) rs) e)
  any_left b qs rs (inr h) = inr h

  or_true : (v : Bool) → (v || true) ≡ true
  or_true true = refl
  or_true false = refl

  any_right : (b a : A) (qs : List K) → (so (other a) (other b) ≡ true) ⊎ Beneath zs (flaw kind (tok b)) → (list_any (λ q. so q (other b)) (qs ++ other a ∷ []) ≡ true) ⊎ Beneath zs (flaw kind (tok b))
  any_right b a qs (inl e) = inl (list_any-append (λ q. so q (other b)) qs (other a ∷ []) ∙ ap (λ v. list_any (λ q. so q (other b)) qs || (v || false)) e ∙ or_true (list_any (λ q. so q (other b)) qs))
  any_right b a qs (inr h) = inr h

  or_false : (v : Bool) → (v || false) ≡ true → v ≡ true
  or_false true e = refl
  or_false false e = e

  passes_more : (ps qs : List K) (a : A) → Passes ps qs → Passes (ps ++ key a ∷ []) (qs ++ other a ∷ [])
  passes_more ps qs a passes b c h = go (or_cases (list_any (λ p. so p (key b)) ps) (so (key a) (key b) || false) (sym (list_any-append (λ p. so p (key b)) ps (key a ∷ [])) ∙ h))
    where
      go : (list_any (λ p. so p (key b)) ps ≡ true) ⊎ ((so (key a) (key b) || false) ≡ true) → (list_any (λ q. so q (other b)) (qs ++ other a ∷ []) ≡ true) ⊎ Beneath zs (flaw kind (tok b))
      go (inl e) = any_left b qs (other a ∷ []) (passes b c e)
      go (inr e) = any_right b a qs (still a b c (or_false (so (key a) (key b)) e))

  pub marked_from : (bs : List A) → ((b : A) → Contains bs b → Contains all b) → (ps qs : List K) → Passes ps qs → Covered zs (marked kind (map tok bs) (earlier so ps (map key bs))) (marked kind (map tok bs) (earlier so qs (map other bs)))
  marked_from [] within ps qs passes = covered_equal zs [] [] refl
  marked_from (b ∷ bs) within ps qs passes =
      covered_join zs
      (flaw_if (list_any (λ p. so p (key b)) ps) kind (tok b)) (flaw_if (list_any (λ q. so q (other b)) qs) kind (tok b))
      (marked kind (map tok bs) (earlier so (ps ++ key b ∷ []) (map key bs))) (marked kind (map tok bs) (earlier so (qs ++ other b ∷ []) (map other bs)))
      (covered_if zs kind (tok b) (list_any (λ p. so p (key b)) ps) (list_any (λ q. so q (other b)) qs) (passes b (within b (contains_head b bs))))
      (marked_from bs (λ x c. within x (contains_later b x bs c)) (ps ++ key b ∷ []) (qs ++ other b ∷ []) (passes_more ps qs b passes))

  no_false : false ≡ true → ⊥
  no_false e = cc

  pub covered_marked : Covered zs (marked kind (map tok all) (earlier so [] (map key all))) (marked kind (map tok all) (earlier so [] (map other all)))
  covered_marked = marked_from all (λ b c. c) [] [] (λ b c e. absurd (no_false e))
