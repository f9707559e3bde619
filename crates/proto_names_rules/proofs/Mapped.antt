-- Two lists that have the same images, one element more (for the crates above).
use Rattle.std.proofs.Common.{◌≡◌, ℕ, ◌+◌, ◌<◌, List, [], ◌∷◌, ◌++◌, length, get_or, map, take, sym, ◌∙◌, ap}
use Rattle.std.proofs.lemmas.List.{map-append, take_more}

pub map_more : {X Y Z : Type 0} (f : X → Z) (g : Y → Z) (xs : List X) (i : ℕ) (d : X) (ys after : List Y) (y : Y) → i < length xs → after ≡ ys ++ y ∷ []
    → map g ys ≡ map f (take i xs) → g y ≡ f (get_or xs i d) → map g after ≡ map f (take (i + 1) xs)
map_more {Z = Z} f g xs i d ys after y l a h e =
    ap (map g) a
    ∙ map-append g ys (y ∷ [])
    ∙ ap (λ (zs : List Z). zs ++ g y ∷ []) h
    ∙ ap (λ (z : Z). map f (take i xs) ++ z ∷ []) e
    ∙ sym (ap (map f) (take_more xs i d l) ∙ map-append f (take i xs) (get_or xs i d ∷ []))
