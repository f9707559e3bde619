-- The string tokens of a file, by their indices.
use Rattle.std.proofs.Common.{◌≡◌, ℕ, zero, suc, ◌<◌, ◌≤◌, Bool, true, false, List, [], ◌∷◌, length, get_or, map, option_map, Option, Some, None, slice_get, refl, sym, ap, ◌∙◌, if◌then◌else◌, is_some, option_and_then, true≢false}
use Rattle.std.proofs.lemmas.Option.{slice_get-map, slice_get_read, slice_get_past}
use Rattle.proto_text.specs.declared.kind.TokenKind.{TokenKind}
use Rattle.proto_text.specs.declared.kind.TokenKind.TheVariants.{Word, Number, Text, Punctuation}
use Rattle.proto_text.specs.declared.lexer.Token.{Token}
use Rattle.proto_text.proofs.Common.{word_at, Lexeme, lexeme_at, value_of}
use Rattle.proto_files.specs.StringTokens.{is_string, string_at, string_text}

abbrev text_of : Lexeme → Option (List ℕ)
text_of l = if is_string l.kind then Some l.text else None

there : (b : Bool) (text : List ℕ) → is_some (if b then Some text else None) ≡ b
there true text = refl
there false text = refl

pub has_string_there : (text : List ℕ) (ts : List Token) (i : ℕ) (t : Token) → i < length ts → t ≡ get_or ts i t → is_some (string_text (map (lexeme_at text) ts) i) ≡ is_string t.kind
has_string_there text ts i t lt at =
    ap (λ (o : Option Lexeme). is_some (option_and_then text_of o)) (slice_get-map (lexeme_at text) ts i ∙ ap (option_map (lexeme_at text)) (slice_get_read ts (length ts) i t refl lt at))
    ∙ there (is_string t.kind) (lexeme_at text t).text

pub no_string_past : (text : List ℕ) (ts : List Token) (i : ℕ) → length ts ≤ i → is_some (string_text (map (lexeme_at text) ts) i) ≡ false
no_string_past text ts i past =
    ap (λ (o : Option Lexeme). is_some (option_and_then text_of o)) (slice_get-map (lexeme_at text) ts i ∙ ap (option_map (lexeme_at text)) (slice_get_past ts i past))

is_text : (k : TokenKind) → is_string k ≡ true → k ≡ Text
is_text Text h = refl
is_text Word h = absurd (true≢false (sym h))
is_text Number h = absurd (true≢false (sym h))
is_text Punctuation h = absurd (true≢false (sym h))

-- the token of such a text
pub string_token : (text : List ℕ) (ts : List Token) (i : ℕ) → is_some (string_text (map (lexeme_at text) ts) i) ≡ true → (t : Token) × (slice_get ts i ≡ Some t) × (t.kind ≡ Text)
string_token text ts i h = go (slice_get ts i) refl (ap (λ (o : Option Lexeme). is_some (option_and_then text_of o)) (sym (slice_get-map (lexeme_at text) ts i)) ∙ h)
  where
    go : (o : Option Token) → slice_get ts i ≡ o → is_some (option_and_then text_of (option_map (lexeme_at text) o)) ≡ true → (t : Token) × (slice_get ts i ≡ Some t) × (t.kind ≡ Text)
    go None e k = absurd (true≢false (sym k))
    go (Some t) e k = (t, e, is_text t.kind (sym (there (is_string t.kind) (lexeme_at text t).text) ∙ k))

kept : (b : Bool) (text : List ℕ) → is_some (if b then Some text else None) ≡ true → (if b then Some text else None) ≡ Some text
kept true text h = refl
kept false text h = absurd (true≢false (sym h))

-- it is the word with the index
string_word : (ls : List Lexeme) (i : ℕ) → is_some (string_text ls i) ≡ true → string_text ls i ≡ Some (word_at ls i)
string_word [] i h = absurd (true≢false (sym h))
string_word (l ∷ ls) zero h = kept (is_string l.kind) l.text h
string_word (l ∷ ls) (suc i) h = string_word ls i h

pub value_there : (ls : List Lexeme) (i : ℕ) → is_some (string_text ls i) ≡ true → string_at ls i ≡ value_of (word_at ls i)
value_there ls i h = ap (option_and_then value_of) (string_word ls i h)

pub no_value : (ls : List Lexeme) (i : ℕ) → is_some (string_text ls i) ≡ false → string_at ls i ≡ None
no_value ls i h = go (string_text ls i) h
  where
    go : (o : Option (List ℕ)) → is_some o ≡ false → option_and_then value_of o ≡ None
    go None k = refl
    go (Some text) k = absurd (true≢false k)
