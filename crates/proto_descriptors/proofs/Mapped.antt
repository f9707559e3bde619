-- One map behind another (for the crates above).
use Rattle.std.proofs.Common.{◌≡◌, List, [], ◌∷◌, refl, ap, map}

pub map_both : {A B C : Type 0} (f : B → C) (g : A → B) (xs : List A) → map (λ x. f (g x)) xs ≡ map f (map g xs)
map_both f g [] = refl
map_both f g (x ∷ xs) = ap (λ ys. f (g x) ∷ ys) (map_both f g xs)
