-- Places of files: whether a file is at one of these, and what holds at each.
use Rattle.std.proofs.Common.{◌≡◌, ◌⊎◌, ℕ, ◌+◌, ◌<◌, ◌==◌, List, refl, sym, subst, inl, inr, arith, Contains, eq-eqb, eqb-true, true, false}
use Rattle.proto_base.proofs.Common.{any_from, any_to, both_ways, cases_Bool, cases_eq, false_from_ne_true, list_any}

-- whether a number is one of these, as a test
pub is_listed : (ns : List ℕ) (n : ℕ) → Contains ns n → list_any (λ k. k == n) ns ≡ true
is_listed ns n c = any_from (λ k. k == n) ns n c (eq-eqb n n refl)

pub from_listed : (ns : List ℕ) (n : ℕ) → list_any (λ k. k == n) ns ≡ true → Contains ns n
from_listed ns n h = let a = any_to (λ k. k == n) ns h in subst (Contains ns) (eqb-true a.0 n a.2) a.1

pub not_listed : (ns : List ℕ) (n : ℕ) → (Contains ns n → ⊥) → list_any (λ k. k == n) ns ≡ false
not_listed ns n out = false_from_ne_true (list_any (λ k. k == n) ns) (λ h. out (from_listed ns n h))

-- a number is one of these, or none of them
pub contains_or_not : (ns : List ℕ) (n : ℕ) → Contains ns n ⊎ (Contains ns n → ⊥)
contains_or_not ns n = elim (cases_Bool (list_any (λ k. k == n) ns)) [
  | inl h ↦ inl (from_listed ns n h)
  | inr h ↦ inr (λ c. both_ways (list_any (λ k. k == n) ns) h (is_listed ns n c))
]

-- what holds below a number and at it
pub before_more : (P : ℕ → Type 0) (n : ℕ) → ((k : ℕ) → k < n → P k) → P n → (k : ℕ) → k < n + 1 → P k
before_more P n below here k l = elim (cases_eq k n) [ inl e ↦ subst P (sym e) here | inr ne ↦ below k (omega (arith, l, ne)) ]
