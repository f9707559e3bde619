-- Bytes that are others, one behind the other.
use Rattle.std.proofs.Common.{◌≡◌, ◌≢◌, ℕ, Bool, true, false, ◌&&◌, List, [], ◌∷◌, ◌++◌, refl, sym, ap, ◌∙◌, eq-eqb, bytes_eq}
use Rattle.std.proofs.lemmas.Slice.Eq.{bytes_eq-Decides}

front_same : (front rest back : List ℕ) → bytes_eq (front ++ rest) (front ++ back) ≡ bytes_eq rest back
front_same [] rest back = refl
front_same (b ∷ front) rest back = ap (λ (same : Bool). same && bytes_eq (front ++ rest) (front ++ back)) (eq-eqb b b refl) ∙ front_same front rest back

-- behind the same front
pub joins_behind : (bytes front rest back : List ℕ) → bytes ≡ front ++ rest → bytes_eq rest back ≡ bytes_eq bytes (front ++ back)
joins_behind bytes front rest back e = sym (ap (λ (s : List ℕ). bytes_eq s (front ++ back)) e ∙ front_same front rest back)

-- without that front
pub joins_not : (bytes front back : List ℕ) → ((rest : List ℕ) → bytes ≢ front ++ rest) → false ≡ bytes_eq bytes (front ++ back)
joins_not bytes front back other = go (bytes_eq bytes (front ++ back)) refl
  where
    go : (b : Bool) → bytes_eq bytes (front ++ back) ≡ b → false ≡ b
    go false e = refl
    go true e = absurd (other back ((bytes_eq-Decides bytes (front ++ back)).0 e))
