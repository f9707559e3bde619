-- Names among others: those that an earlier option has (for the crates above).
use Rattle.std.proofs.Common.{◌≡◌, ℕ, Bool, List, [], ◌∷◌, ◌++◌, length, map, refl, sym, ap, ◌∙◌, arith}
use Rattle.proto_base.proofs.Common.{list_any, map-append, length-map, any_map}
use Rattle.proto_desc_numbers.proofs.Common.{earlier, after_earlier, repeats_length}

-- keys are equal where what they map to is
pub earlier_map : {A B : Type 0} (f : A → B) (eq : B → B → Bool) (front xs : List A) → earlier (λ x y. eq (f x) (f y)) front xs ≡ earlier eq (map f front) (map f xs)
earlier_map f eq front [] = refl
earlier_map f eq front (x ∷ xs) =
    ap (λ (b : Bool). b ∷ earlier (λ x y. eq (f x) (f y)) (front ++ x ∷ []) xs) (sym (any_map (λ p. eq p (f x)) f front))
    ∙ ap (λ (bs : List Bool). list_any (λ p. eq p (f x)) (map f front) ∷ bs) (earlier_map f eq (front ++ x ∷ []) xs ∙ ap (λ (ys : List _). earlier eq ys (map f xs)) (map-append f front (x ∷ [])))

-- as many flags as tokens, where keys and tokens are of the same options
pub flags_length : {A B X : Type 0} (eq : A → A → Bool) (f : A → B) (g : X → B) (h : X → ℕ) (options : List X) (keys : List A) (flags : List Bool) (tokens : List ℕ)
    → tokens ≡ map h options → map f keys ≡ map g options → flags ≡ after_earlier eq keys → length tokens ≡ length flags
flags_length eq f g h options keys flags tokens t k e =
    let a = ap length e ∙ repeats_length eq [] keys in
    let b = ap length t ∙ length-map options h in
    let c = sym (length-map keys f) ∙ ap length k ∙ length-map options g in
    omega (arith, a, b, c)
