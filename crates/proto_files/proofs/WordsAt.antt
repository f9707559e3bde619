-- The word of a token, by its index.
use Rattle.std.proofs.Common.{◌≡◌, ℕ, zero, suc, ◌<◌, ◌≤◌, List, [], ◌∷◌, length, get_or, map, refl, arith}
use Rattle.proto_text.specs.declared.lexer.Token.{Token}
use Rattle.proto_text.proofs.Common.{text_at, word_at, lexeme_at}

pub word_there : (text : List ℕ) (ts : List Token) (i : ℕ) (d : Token) → i < length ts → word_at (map (lexeme_at text) ts) i ≡ text_at text (get_or ts i d).span
word_there text [] i d h = absurd (omega (arith, h))
word_there text (t ∷ ts) zero d h = refl
word_there text (t ∷ ts) (suc i) d h = word_there text ts i d (omega (arith, h))

pub word_past : (text : List ℕ) (ts : List Token) (i : ℕ) → length ts ≤ i → word_at (map (lexeme_at text) ts) i ≡ []
word_past text [] i h = refl
word_past text (t ∷ ts) zero h = absurd (omega (arith, h))
word_past text (t ∷ ts) (suc i) h = word_past text ts i (omega (arith, h))
