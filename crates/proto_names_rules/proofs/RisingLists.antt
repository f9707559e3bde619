-- Lists whose elements stand at rising places (for the crates above).
use Rattle.std.proofs.Common.{ℕ, ◌+◌, ◌<◌, ◌≤◌, List, [], ◌∷◌, ◌++◌, get_or, arith, All, AllPairs, Contains}
use Rattle.proto_base.proofs.Common.{AllByRecursion, All-nil, All-cons, All-weaker, All-contains, AllPairs-cons}

-- the elements stand at places from lo on and before hi, each behind the one before it, and have Q
abbrev pub Rising : {X : Type 0} → (X → ℕ) → (X → Type 0) → ℕ → ℕ → List X → Type 0
Rising at Q lo hi [] = lo ≤ hi
Rising at Q lo hi (x ∷ xs) = (lo ≤ at x) × (at x < hi) × Q x × Rising at Q (at x + 1) hi xs

pub rising_order : {X : Type 0} (at : X → ℕ) (Q : X → Type 0) (xs : List X) (lo hi : ℕ) → Rising at Q lo hi xs → lo ≤ hi
rising_order at Q [] lo hi r = r
rising_order at Q (x ∷ xs) lo hi r = omega (arith, r.0, r.1)

pub rising_within : {X : Type 0} (at : X → ℕ) (Q : X → Type 0) (xs : List X) (lo hi low high : ℕ) → low ≤ lo → hi ≤ high → Rising at Q lo hi xs → Rising at Q low high xs
rising_within at Q [] lo hi low high a b r = omega (arith, a, b, r)
rising_within at Q (x ∷ xs) lo hi low high a b r = (omega (arith, a, r.0), omega (arith, r.1, b), r.2, rising_within at Q xs (at x + 1) hi (at x + 1) high (omega arith) b r.3)

pub rising_append : {X : Type 0} (at : X → ℕ) (Q : X → Type 0) (xs ys : List X) (lo mid next hi : ℕ) → mid ≤ next → Rising at Q lo mid xs → Rising at Q next hi ys → Rising at Q lo hi (xs ++ ys)
rising_append at Q [] ys lo mid next hi l r s = rising_within at Q ys next hi lo hi (omega (arith, l, r)) (omega arith) s
rising_append at Q (x ∷ xs) ys lo mid next hi l r s =
    (r.0, omega (arith, r.1, l, rising_order at Q ys next hi s), r.2, rising_append at Q xs ys (at x + 1) mid next hi l r.3 s)

rising_all : {X : Type 0} (at : X → ℕ) (Q : X → Type 0) (xs : List X) (low lo hi : ℕ) → low ≤ lo → Rising at Q lo hi xs → All (λ x. (low ≤ at x) × Q x) xs
rising_all at Q [] low lo hi l r = All-nil (λ x. (low ≤ at x) × Q x)
rising_all at Q (x ∷ xs) low lo hi l r = All-cons (λ x. (low ≤ at x) × Q x) x xs (omega (arith, l, r.0), r.2) (rising_all at Q xs low (at x + 1) hi (omega (arith, l, r.0)) r.3)

pub rising_each : {X : Type 0} (at : X → ℕ) (Q : X → Type 0) (xs : List X) (lo hi : ℕ) → Rising at Q lo hi xs → (x : X) → Contains xs x → Q x
rising_each at Q xs lo hi r x c = (All-contains (λ x. (lo ≤ at x) × Q x) xs x (rising_all at Q xs lo lo hi (omega arith) r) c).1

pub rising_pairs : {X : Type 0} (at : X → ℕ) (Q : X → Type 0) (xs : List X) (lo hi : ℕ) → Rising at Q lo hi xs → AllPairs (λ x y. at x < at y) xs
rising_pairs at Q [] lo hi r = λ i j d a b. absurd (omega (arith, b))
rising_pairs at Q (x ∷ xs) lo hi r =
    AllPairs-cons (λ x y. at x < at y) x xs
    (All-weaker (λ y. (at x + 1 ≤ at y) × Q y) (λ y. at x < at y) (λ y h. omega (arith, h.0)) xs (rising_all at Q xs (at x + 1) (at x + 1) hi (omega arith) r.3))
    (rising_pairs at Q xs (at x + 1) hi r.3)

-- ---- parts of a stretch

-- what is said of a list between two places stays so between further places, and of one list behind another
pub record Spreads {X : Type 0} (R : ℕ → ℕ → List X → Type 0) : Type 0 where
  pub within : (xs : List X) (lo hi low high : ℕ) → low ≤ lo → hi ≤ high → R lo hi xs → R low high xs
  pub append : (xs ys : List X) (lo mid next hi : ℕ) → mid ≤ next → R lo mid xs → R next hi ys → R lo hi (xs ++ ys)

pub rising_spreads : {X : Type 0} (at : X → ℕ) (Q : X → Type 0) → Spreads (Rising at Q)
rising_spreads at Q = record { within = rising_within at Q; append = rising_append at Q }

-- pairs of a list whose first part goes with everything
pub pairs_append : {X : Type 0} (R : X → X → Type 0) (xs ys : List X) → AllByRecursion (λ x. (y : X) → R x y) xs → AllPairs R ys → AllPairs R (xs ++ ys)
pairs_append R [] ys h p = p
pairs_append R (x ∷ xs) ys h p = AllPairs-cons R x (xs ++ ys) (λ k d l. h.0 (get_or (xs ++ ys) k d)) (pairs_append R xs ys h.1 p)
