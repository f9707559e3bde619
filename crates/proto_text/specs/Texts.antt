-- The words of a text's tokens, and other words in their place.
use Rattle.std.specs.Prelude.{◌≡◌, ◌≢◌, ℕ, ◌<◌, zero, suc, length, get_or, List, [], ◌∷◌, ◌++◌, map, Option, Some, None}
use Rattle.std.specs.Str.{IsUtf8}
use Rattle.proto_base.specs.Texts.{Text}
use Rattle.proto_text.specs.declared.class.Class.TheVariants.{Letter}
use Rattle.proto_text.specs.declared.kind.TokenKind.TheVariants.{Word}
use Rattle.proto_text.specs.declared.lexer.Token.{Token}
use Rattle.proto_text.specs.Edits.{Edit, Puts}
use Rattle.proto_text.specs.Pieces.{IsRun}
use Rattle.proto_text.specs.SourceFacts.{text_at}
use Rattle.proto_text.specs.Tokens.{Lexeme, lexeme_at, AreTokens}

-- the text of the token with this index
abbrev pub word_at : List Lexeme → ℕ → Text
word_at [] i = []
word_at (l ∷ ls) zero = l.text
word_at (l ∷ ls) (suc i) = word_at ls i

-- the words of a text by the indices of its tokens, from 0
abbrev pub words : Text → List Token → ℕ → Text
words text tokens = word_at (map (lexeme_at text) tokens)

-- where the token with this index begins, in bytes from 0
abbrev pub offset_at : List Token → ℕ → ℕ
offset_at [] i = 0
offset_at (t ∷ ts) zero = t.span.start
offset_at (t ∷ ts) (suc i) = offset_at ts i

-- the new word of a token, or its own where it has no new one
abbrev pub or_word : Option Text → Text → Text
or_word None w = w
or_word (Some v) w = v

-- the tokens from the n-th on, with other texts where the change has one
abbrev pub changed : (ℕ → Option Text) → ℕ → List Lexeme → List Lexeme
changed c n [] = []
changed c n (l ∷ ls) =
    record { kind = l.kind; text = or_word (c n) l.text } ∷ changed c (suc n) ls

-- the edit of the word at an offset, if it has a new one
abbrev pub edit_if : Option Text → ℕ → Text → List Edit
edit_if None at old = []
edit_if (Some new) at old = record { at = at; old = old; new = new } ∷ []

-- the same, as edits of the text
abbrev pub token_edits : Text → (ℕ → Option Text) → ℕ → List Token → List Edit
token_edits text c n [] = []
token_edits text c n (t ∷ ts) =
    edit_if (c n) t.span.start (text_at text t.span) ++ token_edits text c (suc n) ts

-- words come in place of words
abbrev pub AreWords : (ℕ → Option Text) → ℕ → List Lexeme → Type 0
AreWords c n [] = Unit {0}
AreWords c n (l ∷ ls) =
    ((w : List ℕ) → c n ≡ Some w → (l.kind ≡ Word) × IsRun Letter w) × AreWords c (suc n) ls

-- what an edit of words leaves
pub record IsReworded (text : Text) (tokens : List Token) (c : ℕ → Option Text) (new : Text)
    (after : List Token) : Type 0 where
  pub put : Puts 0 text (token_edits text c 0 tokens) new
  pub lexed : AreTokens new after
  pub utf8 : IsUtf8 text → IsUtf8 new
  pub words : map (lexeme_at new) after ≡ changed c 0 (map (lexeme_at text) tokens)

-- Words may be put in place of words: the text with their edits has the same tokens, reworded.
abbrev pub WordsArePut : Type 0
WordsArePut =
    (text : List ℕ) (tokens : List Token) (c : ℕ → Option (List ℕ)) → AreTokens text tokens
    → AreWords c 0 (map (lexeme_at text) tokens)
    → (new : List ℕ) × (after : List Token) × IsReworded text tokens c new after

-- The words after are the old ones but for the change.
abbrev pub WordsAreChanged : Type 0
WordsAreChanged =
    (text : List ℕ) (tokens : List Token) (c : ℕ → Option (List ℕ)) (new : List ℕ)
    (after : List Token) → IsReworded text tokens c new after
    → (i : ℕ) → i < length tokens → words new after i ≡ or_word (c i) (words text tokens i)

-- A token that the change leaves alone, or that there is not, has its word.
abbrev pub OtherWordsStay : Type 0
OtherWordsStay =
    (text : List ℕ) (tokens : List Token) (c : ℕ → Option (List ℕ)) (new : List ℕ)
    (after : List Token) → IsReworded text tokens c new after
    → (i : ℕ) → c i ≡ None → words new after i ≡ words text tokens i

-- No token is added or lost.
abbrev pub CountStays : Type 0
CountStays =
    (text : List ℕ) (tokens : List Token) (c : ℕ → Option (List ℕ)) (new : List ℕ)
    (after : List Token) → IsReworded text tokens c new after → length after ≡ length tokens

-- A change of one token is one edit, at the token.
abbrev pub OneWordIsOneEdit : Type 0
OneWordIsOneEdit =
    (text : List ℕ) (tokens : List Token) (c : ℕ → Option (List ℕ)) (i : ℕ) (to : List ℕ)
    → i < length tokens → c i ≡ Some to → ((j : ℕ) → j ≢ i → c j ≡ None)
    → token_edits text c 0 tokens
    ≡ record { at = offset_at tokens i; old = words text tokens i; new = to } ∷ []

-- The word of a token is the text at its span, which begins at its offset.
abbrev pub WordsStandAtSpans : Type 0
WordsStandAtSpans =
    (text : List ℕ) (tokens : List Token) (i : ℕ) (other : Token) → i < length tokens
    → (words text tokens i ≡ text_at text (get_or tokens i other).span)
    × (offset_at tokens i ≡ (get_or tokens i other).span.start)
