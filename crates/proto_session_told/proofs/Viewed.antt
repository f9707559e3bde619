-- Lists that are made one by one, as they are seen.
use Rattle.std.proofs.Common.{◌≡◌, ℕ, ◌+◌, ◌<◌, List, [], ◌∷◌, ◌++◌, length, get_or, map, take, ap, ◌∙◌}
use Rattle.proto_base.proofs.Common.{listed_more, map_push}

-- one more is made, of the next element
pub viewed_more : {X Y Z A : Type 0} (view : Z → A) (f : Y → A) (seen : X → Y) (xs : List X) (i : ℕ) (x d : X) (made next : List Z) (z : Z) → i < length xs → x ≡ get_or xs i d
    → next ≡ made ++ z ∷ [] → view z ≡ f (seen x) → map view made ≡ map f (map seen (take i xs)) → map view next ≡ map f (map seen (take (i + 1) xs))
viewed_more view f seen xs i x d made next z lt is new each same =
    listed_more f seen xs i x d (map view made) (map view next) lt is (ap (map view) new ∙ map_push view made z ∙ ap (λ (a : _). map view made ++ a ∷ []) each) same
