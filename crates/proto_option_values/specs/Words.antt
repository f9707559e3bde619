-- Which words are asked for, and the least of some tokens.
use Rattle.std.specs.Prelude.{ℕ, min, Bool, if◌then◌else◌, List, [], ◌∷◌, Option, Some, None}
use Rattle.std.specs.List.{list_any}
use Rattle.std.specs.Str.{bytes_eq}
use Rattle.proto_base.specs.Texts.{Text}
use Rattle.proto_option_values.specs.OptionValues.{words_asked}
use Rattle.proto_option_values.specs.declared.asked.OptionWords.{OptionWords}
use Rattle.proto_text.specs.Tokens.{Lexeme}
use Rattle.proto_text.specs.Texts.{word_at}

-- the word is one of these
abbrev pub is_asked : List Text → Text → Bool
is_asked these word = list_any (bytes_eq word) these

-- a token of a file has a word that is asked for
abbrev pub asks : OptionWords → List Lexeme → ℕ → Bool
asks asked lexemes token = is_asked (words_asked asked) (word_at lexemes token)

-- the lesser of two tokens, where both are there
abbrev pub lesser : Option ℕ → Option ℕ → Option ℕ
lesser None other = other
lesser (Some a) None = Some a
lesser (Some a) (Some b) = Some (min a b)

-- the least of what the elements of a list have
abbrev pub least : {X : Type 0} → (X → Option ℕ) → List X → Option ℕ
least token [] = None
least token (x ∷ xs) = lesser (token x) (least token xs)

-- the token, if it passes
abbrev pub if_passes : (ℕ → Bool) → ℕ → Option ℕ
if_passes test token = if test token then Some token else None

-- the least of the tokens that pass
abbrev pub least_word : (ℕ → Bool) → List ℕ → Option ℕ
least_word test tokens = least (if_passes test) tokens
