-- The names that are declared at a token, by the rows of a link.
use Rattle.std.specs.Prelude.{ℕ, ◌==◌, if◌then◌else◌, Option, None}
use Rattle.std.specs.Option.{option_and_then}
use Rattle.proto_base.specs.Texts.{Text}
use Rattle.proto_names.specs.Linking.{LinkOf, declaring_token, name_text}

-- the text of the name in this row of a link, if it is declared at the token of its file
abbrev pub text_declared_at : LinkOf → ℕ → ℕ → Option Text
text_declared_at l row token =
    option_and_then (λ t. if t == token then name_text l row else None) (declaring_token l row)
