-- The values of string tokens, by the indices of the tokens.
use Rattle.std.specs.Prelude.{ℕ, Bool, true, false, if◌then◌else◌, List, Option, Some, None, slice_get}
use Rattle.std.specs.Option.{option_and_then}
use Rattle.proto_text.specs.declared.kind.TokenKind.{TokenKind}
use Rattle.proto_text.specs.declared.kind.TokenKind.TheVariants.{Word, Number, Text, Punctuation}
use Rattle.proto_text.specs.Tokens.{Lexeme}
use Rattle.proto_text.specs.Values.{value_of}

-- whether a token of this kind is a string
abbrev pub is_string : TokenKind → Bool
is_string Text = true
is_string Word = false
is_string Number = false
is_string Punctuation = false

-- the text of the string token with an index, if there is such a token
abbrev pub string_text : List Lexeme → ℕ → Option (List ℕ)
string_text lexemes index =
    option_and_then (λ l. if is_string l.kind then Some l.text else None) (slice_get lexemes index)

-- the value of that string token, after its escapes
abbrev pub string_at : List Lexeme → ℕ → Option (List ℕ)
string_at lexemes index = option_and_then value_of (string_text lexemes index)
