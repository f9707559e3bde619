-- Places below a count, one by one.
use Rattle.std.proofs.Common.{ℕ, zero, suc, ◌<◌, [], ◌∷◌, arith, All}

pub one_within : (a n : ℕ) → a < n → All (λ p. p < n) (a ∷ [])
one_within a n l zero d k = l
one_within a n l (suc i) d k = absurd (omega (arith, k))

pub two_within : (a b n : ℕ) → a < n → b < n → All (λ p. p < n) (a ∷ b ∷ [])
two_within a b n la lb zero d l = la
two_within a b n la lb (suc zero) d l = lb
two_within a b n la lb (suc (suc k)) d l = absurd (omega (arith, l))

pub three_within : (a b e n : ℕ) → a < n → b < n → e < n → All (λ p. p < n) (a ∷ b ∷ e ∷ [])
three_within a b e n la lb le zero d l = la
three_within a b e n la lb le (suc zero) d l = lb
three_within a b e n la lb le (suc (suc zero)) d l = le
three_within a b e n la lb le (suc (suc (suc k))) d l = absurd (omega (arith, l))
