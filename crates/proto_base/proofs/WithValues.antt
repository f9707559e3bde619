-- Values put at places of a list: one more, the list as f sees it, and its length.
use Rattle.std.proofs.Common.{◌≡◌, ℕ, ◌+◌, ◌<◌, List, [], ◌∷◌, ◌++◌, length, map, get_or, slice_set, take, refl, sym, ◌∙◌, ap, arith}
use Rattle.std.proofs.lemmas.List.{length-set, length-take-le, map-set, take_more}
use Rattle.proto_base.specs.Undone.{with_values}

pub with_one_more : {T : Type 0} (xs : List T) (places : List ℕ) (values : List T) (place : ℕ) (value : T) → length values ≡ length places → with_values xs (places ++ place ∷ []) (values ++ value ∷ []) ≡ slice_set (with_values xs places values) place value
with_one_more xs [] [] place value e = refl
with_one_more xs [] (v ∷ values) place value e = absurd (omega (arith, e))
with_one_more xs (p ∷ places) [] place value e = absurd (omega (arith, e))
with_one_more xs (p ∷ places) (v ∷ values) place value e = with_one_more (slice_set xs p v) places values place value (omega (arith, e))

-- the next value, at the next place
pub next_put : {T : Type 0} (xs now next : List T) (places : List ℕ) (values : List T) (value : T) (n : ℕ) → n ≡ length values → n < length places → now ≡ with_values xs (take n places) values → next ≡ slice_set now (get_or places n 0) value → next ≡ with_values xs (take (n + 1) places) (values ++ value ∷ [])
next_put xs now next places values value n e l so is =
    is
    ∙ ap (λ zs. slice_set zs (get_or places n 0) value) so
    ∙ sym (with_one_more xs (take n places) values (get_or places n 0) value (sym e ∙ sym (length-take-le n places (omega (arith, l)))))
    ∙ ap (λ ps. with_values xs ps (values ++ value ∷ [])) (sym (take_more places n 0 l))

-- f of each element is as if f of the values were put into the list of f of each
pub map-with_values : {X Y : Type 0} (f : X → Y) (xs : List X) (places : List ℕ) (values : List X) → map f (with_values xs places values) ≡ with_values (map f xs) places (map f values)
map-with_values f xs [] values = refl
map-with_values f xs (place ∷ places) [] = refl
map-with_values f xs (place ∷ places) (v ∷ values) =
    map-with_values f (slice_set xs place v) places values
    ∙ ap (λ ys. with_values ys places (map f values)) (map-set f xs place v)

pub length-with_values : {X : Type 0} (xs : List X) (places : List ℕ) (values : List X) → length (with_values xs places values) ≡ length xs
length-with_values xs [] values = refl
length-with_values xs (place ∷ places) [] = refl
length-with_values xs (place ∷ places) (v ∷ values) = length-with_values (slice_set xs place v) places values ∙ length-set xs place v
