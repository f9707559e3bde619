-- A token that stays stands whole at its moved index.
use Rattle.std.proofs.Common.{◌≡◌, inl, inr, ℕ, zero, suc, ◌+◌, ◌-◌, ◌<◌, ltb, List, [], ◌∷◌, ◌++◌, length, take, drop, refl, ap, ◌∙◌, arith, length-take, Option, slice_get, lt-ltb, le-ltb}
use Rattle.std.proofs.lemmas.Bool.{cond-true, cond-false}
use Rattle.proto_text.specs.Tokens.{Lexeme}
use Rattle.proto_edit_statement_laws.specs.Exchanges.{LexemesAreMoved}

-- As the moved indices of Order of proto_text, of whole lexemes in place of their words.

got_in_front : (xs ys : List Lexeme) (k : ℕ) → k < length xs → slice_get (xs ++ ys) k ≡ slice_get xs k
got_in_front [] ys k lt = absurd (omega (arith, lt))
got_in_front (x ∷ xs) ys zero lt = refl
got_in_front (x ∷ xs) ys (suc k) lt = got_in_front xs ys k (omega (arith, lt))

pub got_behind : (xs ys : List Lexeme) (n k : ℕ) → n ≡ length xs + k → slice_get (xs ++ ys) n ≡ slice_get ys k
got_behind [] ys n k e = ap (slice_get ys) (omega (arith, e))
got_behind (x ∷ xs) ys zero k e = absurd (omega (arith, e))
got_behind (x ∷ xs) ys (suc n) k e = got_behind xs ys n k (omega (arith, e))

got_in_take : (i : ℕ) (xs : List Lexeme) (k : ℕ) → k < i → slice_get (take i xs) k ≡ slice_get xs k
got_in_take zero xs k lt = absurd (omega (arith, lt))
got_in_take (suc i) [] k lt = refl
got_in_take (suc i) (x ∷ xs) zero lt = refl
got_in_take (suc i) (x ∷ xs) (suc k) lt = got_in_take i xs k (omega (arith, lt))

got_none : (n m : ℕ) → ◌≡◌ {A = Option Lexeme} (slice_get [] n) (slice_get [] m)
got_none zero zero = refl
got_none zero (suc m) = refl
got_none (suc n) zero = refl
got_none (suc n) (suc m) = refl

got_in_drop : (j : ℕ) (xs : List Lexeme) (k : ℕ) → slice_get (drop j xs) k ≡ slice_get xs (j + k)
got_in_drop zero xs k = ap (slice_get xs) (omega arith)
got_in_drop (suc j) [] k = got_none k (suc j + k)
got_in_drop (suc j) (x ∷ xs) k = let e : suc (j + k) ≡ suc j + k = omega arith in got_in_drop j xs k ∙ ap (slice_get (x ∷ xs)) e

pub lexemes_are_moved : LexemesAreMoved
lexemes_are_moved ls ns i j k le fits (inl lt) =
    ap (slice_get (take i ls ++ (ns ++ drop j ls))) (cond-true (ltb k i) k ((k - j) + (i + length ns)) (lt-ltb k i lt))
    ∙ got_in_front (take i ls) (ns ++ drop j ls) k (omega (arith, length-take i ls, le, fits, lt)) ∙ got_in_take i ls k lt
lexemes_are_moved ls ns i j k le fits (inr past) =
    ap (slice_get (take i ls ++ (ns ++ drop j ls))) (cond-false (ltb k i) k ((k - j) + (i + length ns)) (le-ltb k i (omega (arith, le, past))))
    ∙ got_behind (take i ls) (ns ++ drop j ls) ((k - j) + (i + length ns)) (length ns + (k - j)) (omega (arith, length-take i ls, le, fits))
    ∙ got_behind ns (drop j ls) (length ns + (k - j)) (k - j) refl
    ∙ got_in_drop j ls (k - j) ∙ ap (slice_get ls) (omega (arith, past))
