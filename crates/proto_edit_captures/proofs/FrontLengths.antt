-- How long the fronts of a scope are as text, and what scanning them finds.
use Rattle.std.proofs.Common.{◌≡◌, ℕ, zero, suc, ◌+◌, ◌-◌, ◌<◌, ◌≤◌, Bool, true, false, ◌&&◌, List, [], ◌∷◌, ◌++◌, length, take, refl, sym, ap, subst, ◌∙◌, inl, inr, arith, append_assoc, length-append, nat_le, le-leb, leb-true, append-nil}
use Rattle.std.proofs.lemmas.Bool.{and_from, and_parts, both_ways, cases_lt, or_cases, or_left, or_right}
use Rattle.proto_names_rules.proofs.Common.{under, ArePlain, joined}
use Rattle.proto_names_table.proofs.Search.{joined_more}
use Rattle.proto_edit_captures.specs.Capturing.{bytes_before, shown_from}

-- ---- lengths

abbrev total : List (List ℕ) → ℕ
total [] = 0
total (w ∷ ws) = (length w + 1) + total ws

joined_long : (v : List ℕ) (ws : List (List ℕ)) → length (joined (v ∷ ws)) ≡ length v + total ws
joined_long v [] = omega arith
joined_long v (w ∷ ws) =
    let l = length-append v (46 ∷ joined (w ∷ ws)) in
    let r = joined_long w ws in
    omega (arith, l, r)

before_all : (n : ℕ) (ws : List (List ℕ)) → bytes_before (n + total ws) ws ≡ n
before_all n [] = omega arith
before_all n (w ∷ ws) =
    let e : (n + ((length w + 1) + total ws)) - (length w + 1) ≡ n + total ws = omega arith in
    ap (λ z. bytes_before z ws) e ∙ before_all n ws

total_append : (a b : List (List ℕ)) → total (a ++ b) ≡ total a + total b
total_append [] b = omega arith
total_append (w ∷ a) b = let r = total_append a b in omega (arith, r)

first_long : (f : List (List ℕ)) (p : List ℕ) (rest : List (List ℕ)) → length (joined (f ++ p ∷ rest)) ≡ length (joined (f ++ p ∷ [])) + total rest
first_long [] p rest = joined_long p rest
first_long (v ∷ f) p rest =
    let a = joined_long v (f ++ p ∷ rest) in
    let b = joined_long v (f ++ p ∷ []) in
    let c = total_append f (p ∷ rest) in
    let d = total_append f (p ∷ []) in
    omega (arith, a, b, c, d)

pub before_first : (f : List (List ℕ)) (p : List ℕ) (rest : List (List ℕ)) → bytes_before (length (joined (f ++ p ∷ rest))) rest ≡ length (joined (f ++ p ∷ []))
before_first f p rest = ap (λ z. bytes_before z rest) (first_long f p rest) ∙ before_all (length (joined (f ++ p ∷ []))) rest

total_take : (xs : List (List ℕ)) (a b : ℕ) → a ≤ b → total (take a xs) ≤ total (take b xs)
total_take [] zero zero l = omega arith
total_take [] zero (suc b) l = omega arith
total_take [] (suc a) zero l = absurd (omega (arith, l))
total_take [] (suc a) (suc b) l = omega arith
total_take (x ∷ xs) zero zero l = omega arith
total_take (x ∷ xs) zero (suc b) l = omega arith
total_take (x ∷ xs) (suc a) zero l = absurd (omega (arith, l))
total_take (x ∷ xs) (suc a) (suc b) l = let r = total_take xs a b (omega (arith, l)) in omega (arith, r)

total_less : (xs : List (List ℕ)) (a b : ℕ) → a < b → b ≤ length xs → total (take a xs) < total (take b xs)
total_less [] a b l m = absurd (omega (arith, l, m))
total_less (x ∷ xs) zero zero l m = absurd (omega (arith, l))
total_less (x ∷ xs) zero (suc b) l m = omega arith
total_less (x ∷ xs) (suc a) zero l m = absurd (omega (arith, l))
total_less (x ∷ xs) (suc a) (suc b) l m = let r = total_less xs a b (omega (arith, l)) (omega (arith, m)) in omega (arith, r)

-- a longer front has as many bytes as the hit's and a dot
pub deeper : (scope : List (List ℕ)) (p : List ℕ) (k j : ℕ) → k < j → j ≤ length scope → length (joined (take k scope ++ p ∷ [])) - length p ≤ length (joined (take j scope))
deeper [] p k j l m = absurd (omega (arith, l, m))
deeper (s ∷ scope) p k zero l m = absurd (omega (arith, l))
deeper (s ∷ scope) p zero (suc j) l m = omega arith
deeper (s ∷ scope) p (suc k) (suc j) l m =
    let a = joined_long s (take k scope ++ p ∷ []) in
    let b = total_append (take k scope) (p ∷ []) in
    let c = joined_long s (take j scope) in
    let d = total_less scope k j (omega (arith, l)) (omega (arith, m)) in
    omega (arith, a, b, c, d)

-- and no other has
pub not_deeper : (scope : List (List ℕ)) (p : List ℕ) (k j : ℕ) → 0 < j → k ≤ length scope → j ≤ length scope → length (joined (take k scope ++ p ∷ [])) - length p ≤ length (joined (take j scope)) → k < j
not_deeper [] p k j some lk m h = absurd (omega (arith, some, m))
not_deeper (s ∷ scope) p k zero some lk m h = absurd (omega (arith, some))
not_deeper (s ∷ scope) p zero (suc j) some lk m h = omega arith
not_deeper (s ∷ scope) p (suc k) (suc j) some lk m h = elim (cases_lt k j) [
  | inl l ↦ omega (arith, l)
  | inr ge ↦
      let a = joined_long s (take k scope ++ p ∷ []) in
      let b = total_append (take k scope) (p ∷ []) in
      let c = joined_long s (take j scope) in
      let d = total_take scope j k ge in
      absurd (omega (arith, a, b, c, d, h))
]

-- ---- scanning

plain_left : (a b : List (List ℕ)) → ArePlain (a ++ b) → ArePlain a
plain_left [] b h = tt
plain_left (w ∷ a) b h = (h.0, plain_left a b h.1)

module _ (test : List ℕ → Bool) (least : ℕ) where
  pub scan_to : (S ws : List (List ℕ)) → ArePlain (S ++ ws) → shown_from test least (joined S) ws ≡ true
      → (i : ℕ) × (0 < i) × (i ≤ length ws) × (least ≤ length (joined (S ++ take i ws))) × (test (joined (S ++ take i ws)) ≡ true)
  scan_to S [] plain h = absurd (both_ways false refl h)
  scan_to S (w ∷ ws) plain h =
      let next : under (joined S) w ≡ joined (S ++ w ∷ []) = sym (joined_more S w (plain_left S (w ∷ ws) plain)) in
      elim (or_cases (nat_le least (length (under (joined S) w)) && test (under (joined S) w)) (shown_from test least (under (joined S) w) ws) h) [
        | inl x ↦
            let t = and_parts (nat_le least (length (under (joined S) w))) (test (under (joined S) w)) x in
            (1, omega arith, omega arith, subst (λ z. least ≤ length z) next (leb-true least (length (under (joined S) w)) t.0), ap test (sym next) ∙ t.1)
        | inr y ↦
            let r = scan_to (S ++ w ∷ []) ws (subst ArePlain (sym (append_assoc S (w ∷ []) ws)) plain) (ap (λ z. shown_from test least z ws) (sym next) ∙ y) in
            let same : (S ++ w ∷ []) ++ take r.0 ws ≡ S ++ w ∷ take r.0 ws = append_assoc S (w ∷ []) (take r.0 ws) in
            let l1 = r.1 in
            let l2 = r.2 in
            (suc r.0, omega arith, omega (arith, l2), subst (λ z. least ≤ length (joined z)) same r.3, ap (λ z. test (joined z)) (sym same) ∙ r.4)
      ]

  pub scan_from : (S ws : List (List ℕ)) → ArePlain (S ++ ws) → (i : ℕ) → 0 < i → i ≤ length ws → least ≤ length (joined (S ++ take i ws)) → test (joined (S ++ take i ws)) ≡ true → shown_from test least (joined S) ws ≡ true
  scan_from S [] plain i some l long h = absurd (omega (arith, some, l))
  scan_from S (w ∷ ws) plain zero some l long h = absurd (omega (arith, some))
  scan_from S (w ∷ ws) plain (suc zero) some l long h =
      let next : joined (S ++ w ∷ []) ≡ under (joined S) w = joined_more S w (plain_left S (w ∷ ws) plain) in
      or_left (nat_le least (length (under (joined S) w)) && test (under (joined S) w)) (shown_from test least (under (joined S) w) ws)
      (and_from (nat_le least (length (under (joined S) w))) (test (under (joined S) w)) (le-leb least (length (under (joined S) w)) (subst (λ z. least ≤ length z) next long)) (ap test (sym next) ∙ h))
  scan_from S (w ∷ ws) plain (suc (suc i)) some l long h =
      let next : joined (S ++ w ∷ []) ≡ under (joined S) w = joined_more S w (plain_left S (w ∷ ws) plain) in
      let same : S ++ w ∷ take (suc i) ws ≡ (S ++ w ∷ []) ++ take (suc i) ws = sym (append_assoc S (w ∷ []) (take (suc i) ws)) in
      or_right (nat_le least (length (under (joined S) w)) && test (under (joined S) w)) (shown_from test least (under (joined S) w) ws)
      (ap (λ z. shown_from test least z ws) (sym next)
      ∙ scan_from (S ++ w ∷ []) ws (subst ArePlain same' plain) (suc i) (omega arith) (omega (arith, l)) (subst (λ z. least ≤ length (joined z)) same long) (ap (λ z. test (joined z)) (sym same) ∙ h))
    where
      same' : S ++ w ∷ ws ≡ (S ++ w ∷ []) ++ ws
      same' = sym (append_assoc S (w ∷ []) ws)

-- ---- texts that begin with a front

pub joined_begins : (f : List (List ℕ)) (p : List ℕ) (rest : List (List ℕ)) → (more : List ℕ) × (joined (f ++ p ∷ rest) ≡ joined (f ++ p ∷ []) ++ more)
joined_begins [] p [] = ([], sym (append-nil p))
joined_begins [] p (r ∷ rest) = (46 ∷ joined (r ∷ rest), refl)
joined_begins (v ∷ []) p rest = let r = joined_begins [] p rest in (r.0, ap (λ z. v ++ 46 ∷ z) r.1 ∙ sym (append_assoc v (46 ∷ p) r.0))
joined_begins (v ∷ u ∷ f) p rest = let r = joined_begins (u ∷ f) p rest in (r.0, ap (λ z. v ++ 46 ∷ z) r.1 ∙ sym (append_assoc v (46 ∷ joined (u ∷ f ++ p ∷ [])) r.0))
