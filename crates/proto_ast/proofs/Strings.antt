-- The value of a string token, and nothing for another token.
use Rattle.std.proofs.Common.{◌≡◌, ℕ, List, [], Option, None, Some, slice_get, refl, sym, ◌∙◌, ap, codes, if◌then◌else◌, option_and_then, bytes_eq}
use Rattle.proto_text.specs.declared.kind.TokenKind.{TokenKind}
use Rattle.proto_text.specs.declared.kind.TokenKind.TheVariants.{Word, Number, Text, Punctuation}
use Rattle.proto_text.proofs.Common.{Lexeme, is_value, value_of}
use Rattle.proto_base.specs.Texts.{or_nothing}
use Rattle.proto_files.specs.StringTokens.{is_string, string_at}
use Rattle.proto_ast.specs.Scenes.{string_of, value_in, value_or_none}

by_kind : (k : TokenKind) (text : List ℕ) → or_nothing (option_and_then value_of (if is_string k then Some text else None)) ≡ value_or_none k (value_of text)
by_kind Word text = refl
by_kind Number text = refl
by_kind Punctuation text = refl
by_kind Text text = go (value_of text)
  where
    go : (o : Option (List ℕ)) → or_nothing o ≡ value_or_none Text o
    go None = refl
    go (Some v) = refl

by_lexeme : (o : Option Lexeme) → or_nothing (option_and_then value_of (option_and_then (λ l. if is_string l.kind then Some l.text else None) o)) ≡ string_of o
by_lexeme None = refl
by_lexeme (Some l) = by_kind l.kind l.text

value_is : (ls : List Lexeme) (token : ℕ) → or_nothing (string_at ls token) ≡ value_in ls token
value_is ls token = by_lexeme (slice_get ls token)

pub value_found : (ls : List Lexeme) (token : ℕ) (found : Option (List ℕ)) (value : List ℕ) → found ≡ string_at ls token → found ≡ Some value → value ≡ value_in ls token
value_found ls token found value h e = ap or_nothing (sym e ∙ h) ∙ value_is ls token

pub no_value_found : (ls : List Lexeme) (token : ℕ) (found : Option (List ℕ)) → found ≡ string_at ls token → found ≡ None → [] ≡ value_in ls token
no_value_found ls token found h e = ap or_nothing (sym e ∙ h) ∙ value_is ls token

pub says_proto3 : (ls : List Lexeme) (token : ℕ) → is_value (string_at ls token) (codes "proto3") ≡ bytes_eq (value_in ls token) (codes "proto3")
says_proto3 ls token = go (string_at ls token) ∙ ap (λ (v : List ℕ). bytes_eq v (codes "proto3")) (value_is ls token)
  where
    go : (o : Option (List ℕ)) → is_value o (codes "proto3") ≡ bytes_eq (or_nothing o) (codes "proto3")
    go None = refl
    go (Some v) = refl
