-- Lists that are compared element by element, the second by what its elements stand for.
use Rattle.std.proofs.Common.{◌≡◌, ◌∙◌, refl, ap, ℕ, zero, suc, ◌+◌, ◌<◌, Bool, ◌&&◌, List, [], ◌∷◌, length, map, drop, get_or, arith}
use Rattle.std.specs.Cmp.Lexicographic.{pointwise}

-- from a place on: the elements there, and then those behind them
pub same_from : {X Y : Type 0} → (same : X → X → Bool) (f : Y → X) (xs : List X) (ys : List Y) (i : ℕ) (d : X) (e : Y) → i < length xs → i < length ys
    → pointwise same (drop i xs) (drop i (map f ys)) ≡ same (get_or xs i d) (f (get_or ys i e)) && pointwise same (drop (i + 1) xs) (drop (i + 1) (map f ys))
same_from same f [] ys i d e within below = absurd (omega (arith, within))
same_from same f (x ∷ xs) [] i d e within below = absurd (omega (arith, below))
same_from same f (x ∷ xs) (y ∷ ys) zero d e within below = refl
same_from same f (x ∷ xs) (y ∷ ys) (suc i) d e within below = same_from same f xs ys i d e (omega (arith, within)) (omega (arith, below))
    ∙ ap (λ k. same (get_or xs i d) (f (get_or ys i e)) && pointwise same (drop k (x ∷ xs)) (drop k (f y ∷ map f ys))) {x = suc (i + 1)} {y = suc i + 1} (omega arith)
