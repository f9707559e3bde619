-- Plain words joined by points are read back in one way (for the crates above).
use Rattle.std.proofs.Common.{◌≡◌, ℕ, false, List, [], ◌∷◌, ◌++◌, refl, sym, ◌∙◌, ap, ◌==◌, eq-eqb}
use Rattle.proto_base.proofs.Common.{list_any, or_parts, both_ways}
use Rattle.proto_names_rules.specs.Joined.{joined, ArePlain}

pub no_point : (b : ℕ) (v : List ℕ) → list_any (λ x. x == 46) (b ∷ v) ≡ false → b ≡ 46 → ⊥
no_point b v h e = both_ways (b == 46) (or_parts (b == 46) (list_any (λ x. x == 46) v) h).0 (eq-eqb b 46 e)

-- up to the first point two texts agree
pub at_point : (v w x y : List ℕ) → list_any (λ b. b == 46) v ≡ false → list_any (λ b. b == 46) w ≡ false → v ++ 46 ∷ x ≡ w ++ 46 ∷ y → (v ≡ w) × (x ≡ y)
at_point [] [] x y hv hw h = (refl, cc)
at_point [] (b ∷ w) x y hv hw h = let e : b ≡ 46 = cc in absurd (no_point b w hw e)
at_point (a ∷ v) [] x y hv hw h = let e : a ≡ 46 = cc in absurd (no_point a v hv e)
at_point (a ∷ v) (b ∷ w) x y hv hw h =
    let t : v ++ 46 ∷ x ≡ w ++ 46 ∷ y = cc in
    let e : a ≡ b = cc in
    let r = at_point v w x y (or_parts (a == 46) (list_any (λ z. z == 46) v) hv).1 (or_parts (b == 46) (list_any (λ z. z == 46) w) hw).1 t in
    (ap (λ z. z ∷ v) e ∙ ap (λ l. b ∷ l) r.0, r.1)

-- a plain word has no point in it
pub not_pointed : (v w x : List ℕ) → list_any (λ b. b == 46) v ≡ false → v ≡ w ++ 46 ∷ x → ⊥
not_pointed [] [] x h e = absurd (nil_here e)
  where
    nil_here : ◌≡◌ {A = List ℕ} [] (46 ∷ x) → ⊥
    nil_here e = cc
not_pointed [] (b ∷ w) x h e = absurd (nil_here e)
  where
    nil_here : ◌≡◌ {A = List ℕ} [] (b ∷ (w ++ 46 ∷ x)) → ⊥
    nil_here e = cc
not_pointed (a ∷ v) [] x h e = let q : a ≡ 46 = cc in no_point a v h q
not_pointed (a ∷ v) (b ∷ w) x h e = let q : v ≡ w ++ 46 ∷ x = cc in not_pointed v w x (or_parts (a == 46) (list_any (λ z. z == 46) v) h).1 q

empty_not : (w x : List ℕ) → [] ≡ w ++ 46 ∷ x → ⊥
empty_not w x e = not_pointed [] w x refl e

pub joined_apart : (x y : List (List ℕ)) → ArePlain x → ArePlain y → joined x ≡ joined y → x ≡ y
joined_apart [] [] px py h = refl
joined_apart [] (w ∷ []) px py h = absurd (py.0.1 (sym h))
joined_apart [] (w ∷ v ∷ rest) px py h = absurd (empty_not w (joined (v ∷ rest)) h)
joined_apart (w ∷ []) [] px py h = absurd (px.0.1 h)
joined_apart (w ∷ v ∷ rest) [] px py h = absurd (empty_not w (joined (v ∷ rest)) (sym h))
joined_apart (w ∷ []) (u ∷ []) px py h = ap (λ z. z ∷ []) h
joined_apart (w ∷ []) (u ∷ v ∷ rest) px py h = absurd (not_pointed w u (joined (v ∷ rest)) px.0.0 h)
joined_apart (w ∷ v ∷ rest) (u ∷ []) px py h = absurd (not_pointed u w (joined (v ∷ rest)) py.0.0 (sym h))
joined_apart (w ∷ v ∷ xs) (u ∷ t ∷ ys) px py h =
    let r = at_point w u (joined (v ∷ xs)) (joined (t ∷ ys)) px.0.0 py.0.0 h in
    ap (λ z. z ∷ v ∷ xs) r.0 ∙ ap (λ l. u ∷ l) (joined_apart (v ∷ xs) (t ∷ ys) px.1 py.1 r.1)
