-- Single bits of a word, as tests.
use Rattle.std.proofs.Common.{◌≡◌, ◌≢◌, ℕ, zero, suc, ◌-◌, ◌^◌, ◌<◌, ◌≤◌, true, not, ◌&&◌, ◌||◌, max, min, nat_eq, bit_and, bit_or, refl, sym, ◌∙◌, ap, arith, true≢false, w64}
use Rattle.std.specs.Int.{bit_at, bit_not, trailing_zeros}
use Rattle.std.proofs.lemmas.Bool.{eqb-true}
use Rattle.std.proofs.lemmas.Nat.Bits.{bit_at_and, bit_at_or, bit_at_not, bit_at_ones, bit_at_ones_above, bit_at-lt, bit_at-zero, bit_at-trailing_zeros}

-- a bit that passes the test is 1
pub is_one : (b : ℕ) → nat_eq b 1 ≡ true → b ≡ 1
is_one b e = eqb-true b 1 e

-- two bits with the same answer are the same
pub bits_agree : (a b : ℕ) → a < 2 → b < 2 → nat_eq a 1 ≡ nat_eq b 1 → a ≡ b
bits_agree zero zero la lb e = refl
bits_agree zero (suc zero) la lb e = absurd (true≢false (sym e))
bits_agree (suc zero) zero la lb e = absurd (true≢false e)
bits_agree (suc zero) (suc zero) la lb e = refl
bits_agree zero (suc (suc b)) la lb e = absurd (omega (arith, lb))
bits_agree (suc zero) (suc (suc b)) la lb e = absurd (omega (arith, lb))
bits_agree (suc (suc a)) b la lb e = absurd (omega (arith, la))

-- a mask of the low bits keeps them, and clears the others
pub low_kept : (n k i : ℕ) → i < k → bit_at (bit_and n (2 ^ k - 1)) i ≡ bit_at n i
low_kept n k i l = omega (arith, bit_at_and n (2 ^ k - 1) i, bit_at_ones k i l, bit_at-lt n i)

pub high_cleared : (n k i : ℕ) → k ≤ i → bit_at (bit_and n (2 ^ k - 1)) i ≡ 0
high_cleared n k i l = omega (arith, bit_at_and n (2 ^ k - 1) i, bit_at_ones_above k i l)

-- words with a common bit, and words with none
pub common_bit : (a b : ℕ) → bit_and a b ≢ 0 → bit_and a b < 2 ^ 64 → (k : ℕ) × (k < 64) × (bit_at a k ≡ 1) × (bit_at b k ≡ 1)
common_bit a b some small =
    let k = trailing_zeros w64 (bit_and a b) in
    let lowest = bit_at-trailing_zeros w64 (bit_and a b) (omega (arith, some)) small in (
      k,
      lowest.0,
      omega (arith, lowest.1, bit_at_and a b k, bit_at-lt a k, bit_at-lt b k),
      omega (arith, lowest.1, bit_at_and a b k, bit_at-lt a k, bit_at-lt b k),
    )

pub no_common_bit : (a b k : ℕ) → bit_and a b ≡ 0 → bit_at a k ≡ 1 → bit_at b k ≡ 1 → ⊥
no_common_bit a b k none one also = omega (arith, one, also, bit_at_and a b k, ap (λ n. bit_at n k) none, bit_at-zero k)

new_of : (a s b : ℕ) → a < 2 → s < 2 → b < 2 → nat_eq (max a (min s (1 - b))) 1 ≡ (nat_eq a 1 || nat_eq s 1 && not (nat_eq b 1))
new_of zero zero zero la ls lb = refl
new_of zero zero (suc zero) la ls lb = refl
new_of zero (suc zero) zero la ls lb = refl
new_of zero (suc zero) (suc zero) la ls lb = refl
new_of (suc zero) zero zero la ls lb = refl
new_of (suc zero) zero (suc zero) la ls lb = refl
new_of (suc zero) (suc zero) zero la ls lb = refl
new_of (suc zero) (suc zero) (suc zero) la ls lb = refl
new_of (suc (suc a)) s b la ls lb = absurd (omega (arith, la))
new_of a (suc (suc s)) b la ls lb = absurd (omega (arith, ls))
new_of a s (suc (suc b)) la ls lb = absurd (omega (arith, lb))

-- `a | (s & !b)`
pub new_bit : (a s b k : ℕ) → b < 2 ^ 64 → k < 64 → nat_eq (bit_at (bit_or a (bit_and s (bit_not w64 b))) k) 1 ≡ (nat_eq (bit_at a k) 1 || nat_eq (bit_at s k) 1 && not (nat_eq (bit_at b k) 1))
new_bit a s b k small l =
    ap (λ n. nat_eq n 1) (bit_at_or a (bit_and s (bit_not w64 b)) k ∙ ap (max (bit_at a k)) (bit_at_and s (bit_not w64 b) k ∙ ap (min (bit_at s k)) (bit_at_not w64 b k small l)))
    ∙ new_of (bit_at a k) (bit_at s k) (bit_at b k) (bit_at-lt a k) (bit_at-lt s k) (bit_at-lt b k)
