-- The tests of snake names, step by step.
use Rattle.std.proofs.Common.{◌≡◌, ℕ, ◌-◌, ◌<◌, ◌≤◌, Bool, true, false, ◌&&◌, ◌||◌, ◌==◌, List, [], ◌∷◌, length, get_or, take, drop, refl, sym, ap, ◌∙◌, arith, take_all}
use Rattle.proto_base.proofs.Common.{is_ascii_digit, list_all}
use Rattle.proto_case.specs.Cases.{are_apart, is_snake}

-- of the first byte, and of those behind it
abbrev pub front : (ℕ → Bool) → List ℕ → Bool
front letter bytes = letter (get_or bytes 0 0) && list_all (λ c. letter c || is_ascii_digit c || c == 95) (take (length bytes - 1) (drop 1 bytes))

pub front_then : (letter : ℕ → Bool) (bytes : List ℕ) (first value rest : Bool) → first ≡ letter (get_or bytes 0 0) → first ≡ true → value ≡ rest
    → rest ≡ list_all (λ c. letter c || is_ascii_digit c || c == 95) (take (length bytes - 1) (drop 1 bytes)) → value ≡ front letter bytes
front_then letter bytes first value rest f is v r =
    v ∙ r ∙ sym (ap (λ (b : Bool). b && list_all (λ c. letter c || is_ascii_digit c || c == 95) (take (length bytes - 1) (drop 1 bytes))) (sym f ∙ is))

pub front_else : (letter : ℕ → Bool) (bytes : List ℕ) (first value : Bool) → first ≡ letter (get_or bytes 0 0) → first ≡ false → value ≡ first → value ≡ front letter bytes
front_else letter bytes first value f is v =
    v ∙ is ∙ sym (ap (λ (b : Bool). b && list_all (λ c. letter c || is_ascii_digit c || c == 95) (take (length bytes - 1) (drop 1 bytes))) (sym f ∙ is))

both : (letter : ℕ → Bool) (bytes : List ℕ) → 1 ≤ length bytes → is_snake letter bytes ≡ (front letter bytes && are_apart bytes)
both letter [] le = absurd (omega (arith, le))
both letter (b ∷ rest) le =
    let all : take (length (b ∷ rest) - 1) rest ≡ rest = take_all (length (b ∷ rest) - 1) rest (omega arith) in
    joined (letter b) _ _ ∙ ap (λ (bs : List ℕ). (letter b && list_all (λ c. letter c || is_ascii_digit c || c == 95) bs) && are_apart (b ∷ rest)) (sym all)
  where
    joined : (x y z : Bool) → (x && y && z) ≡ ((x && y) && z)
    joined true y z = refl
    joined false y z = refl

pub snake_then : (letter : ℕ → Bool) (bytes name : List ℕ) (value apart : Bool) → bytes ≡ name → 1 ≤ length bytes → value ≡ front letter bytes → value ≡ true → apart ≡ are_apart name → apart ≡ is_snake letter name
snake_then letter bytes name value apart same le v is a =
    a ∙ sym (ap are_apart same) ∙ sym (both letter bytes le ∙ ap (λ (b : Bool). b && are_apart bytes) (sym v ∙ is)) ∙ ap (is_snake letter) same

pub snake_else : (letter : ℕ → Bool) (bytes name : List ℕ) (value : Bool) → bytes ≡ name → 1 ≤ length bytes → value ≡ front letter bytes → value ≡ false → value ≡ is_snake letter name
snake_else letter bytes name value same le v is =
    is ∙ sym (both letter bytes le ∙ ap (λ (b : Bool). b && are_apart bytes) (sym v ∙ is)) ∙ ap (is_snake letter) same

pub no_snake : (letter : ℕ → Bool) (bytes name : List ℕ) → bytes ≡ name → length bytes < 1 → false ≡ is_snake letter name
no_snake letter [] name same lt = ap (is_snake letter) same
no_snake letter (b ∷ rest) name same lt = absurd (omega (arith, lt))
