-- Numbers that stop at a limit.
use Rattle.std.proofs.Common.{◌≡◌, ℕ, ◌+◌, ◌*◌, ◌<◌, ◌≤◌, List, [], ◌∷◌, ◌++◌, length, get_or, take, refl, sym, ap, subst, ◌∙◌, inl, inr, arith, min}
use Rattle.std.proofs.Math.Nat.{mul-le-mul_left}
use Rattle.proto_base.proofs.Common.{cases_lt, take_more}
use Rattle.proto_text.specs.Strings.{number_in, digit_value}

-- a number that stops at a limit, with one more digit
pub stopped_step : (limit b n d m : ℕ) → 1 ≤ b → m ≡ min limit n → min (m * b + d) limit ≡ min limit (n * b + d)
stopped_step limit b n d m h e =
    let p = mul-le-mul_left limit h in
    let q = mul-le-mul_left n h in
    by n m b d limit p q e
  where
    by : (n m b d limit : ℕ) → limit * 1 ≤ limit * b → n * 1 ≤ n * b → m ≡ min limit n → min (m * b + d) limit ≡ min limit (n * b + d)
    by n m b d limit p q e = elim (cases_lt n limit) [
      | inl low ↦ let same : m ≡ n = omega (arith, e, low) in subst (λ (k : ℕ). min (k * b + d) limit ≡ min limit (n * b + d)) (sym same) (omega arith)
      | inr high ↦ let same : m ≡ limit = omega (arith, e, high) in subst (λ (k : ℕ). min (k * b + d) limit ≡ min limit (n * b + d)) (sym same) (omega (arith, p, q, high))
    ]

pub stopped_is : (limit base n d from dr lim number result next : ℕ) → 1 ≤ base → number ≡ min limit n → result ≡ min (number * from + dr) lim → from ≡ base → dr ≡ d → lim ≡ limit → next ≡ n * base + d → result ≡ min limit next
stopped_is limit base n d from dr lim number result next low is r f v l e =
    r ∙ ap (λ (x : ℕ). min (number * x + dr) lim) f ∙ ap (λ (x : ℕ). min (number * base + x) lim) v ∙ ap (λ (x : ℕ). min (number * base + d) x) l ∙ stopped_step limit base n d number low is ∙ ap (λ (x : ℕ). min limit x) (sym e)

pub min_bound : (limit n m : ℕ) → m ≡ min limit n → m ≤ limit
min_bound limit n m e = omega (arith, e)

pub number_snoc : (base front : ℕ) (ds : List ℕ) (d : ℕ) → number_in base front (ds ++ d ∷ []) ≡ number_in base front ds * base + digit_value d
number_snoc base front [] d = refl
number_snoc base front (x ∷ ds) d = number_snoc base (front * base + digit_value x) ds d

pub number_more : (base : ℕ) (ds : List ℕ) (i : ℕ) → i < length ds → number_in base 0 (take (i + 1) ds) ≡ number_in base 0 (take i ds) * base + digit_value (get_or ds i 0)
number_more base ds i h = ap (number_in base 0) (take_more ds i 0 h) ∙ number_snoc base 0 (take i ds) (get_or ds i 0)
