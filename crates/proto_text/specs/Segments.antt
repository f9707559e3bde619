-- Runs of tokens that are taken out of a text, put in or replaced.
use Rattle.std.specs.Prelude.{◌≡◌, ℕ, zero, suc, ◌+◌, ◌-◌, ◌<◌, ◌≤◌, ◌^◌, ◌⊎◌, ◌==◌, ◌||◌, Bool, true, false, not, All, List, [], ◌∷◌, ◌++◌, length, take, drop, map, nat_lt, if◌then◌else◌}
use Rattle.std.specs.Fmt.{decimal}
use Rattle.std.specs.Str.{IsUtf8}
use Rattle.proto_base.specs.Ascii as ascii
use Rattle.proto_text.specs.declared.kind.TokenKind.{TokenKind}
use Rattle.proto_text.specs.declared.kind.TokenKind.TheVariants.{Word, Number, Text, Punctuation}
use Rattle.proto_text.specs.declared.lexer.Token.{Token}
use Rattle.proto_text.specs.declared.kind.PieceKind.TheVariants.{Solid}
use Rattle.proto_text.specs.Bytes.{EachByte}
use Rattle.proto_text.specs.Classes.{is_space, is_identifier}
use Rattle.proto_text.specs.Strings.{IsString}
use Rattle.proto_text.specs.Values.{StandsFor}
use Rattle.proto_text.specs.Edits.{Puts}
use Rattle.proto_text.specs.Pieces.{Piece, IsLexeme, ArePieces, pieces_text}
use Rattle.proto_text.specs.SourceFacts.{IsSpan}
use Rattle.proto_text.specs.Texts.{word_at, offset_at}
use Rattle.proto_text.specs.Tokens.{Lexeme, lexeme_at, lexemes, AreTokens}

-- ---- places between tokens

-- a token that takes no byte that stands behind it
abbrev pub EndsByItself : TokenKind → Type 0
EndsByItself Word = ⊥
EndsByItself Number = ⊥
EndsByItself Text = Unit {0}
EndsByItself Punctuation = Unit {0}

-- token i is the first, or the one before it ends by itself
abbrev pub IsSeam : List Token → ℕ → Type 0
IsSeam ts zero = Unit {0}
IsSeam [] (suc i) = ⊥
IsSeam (t ∷ ts) (suc zero) = EndsByItself t.kind
IsSeam (t ∷ ts) (suc (suc i)) = IsSeam ts (suc i)

-- where the token before token i ends, in bytes from 0; 0 before the first
abbrev pub end_before : List Token → ℕ → ℕ
end_before ts zero = 0
end_before [] (suc i) = 0
end_before (t ∷ ts) (suc zero) = t.span.end
end_before (t ∷ ts) (suc (suc i)) = end_before ts (suc i)

-- the place is right behind the token before token i, which ends by itself, or right before token i
pub record IsPlace (tokens : List Token) (i place : ℕ) : Type 0 where
  pub seam : IsSeam tokens i
  pub there : (place ≡ end_before tokens i) ⊎ ((i < length tokens) × (place ≡ offset_at tokens i))

-- Tokens stand in order, and none is empty.
pub record AreInOrder (text : List ℕ) (tokens : List Token) : Type 0 where
  pub apart : (i : ℕ) → i < length tokens → end_before tokens i ≤ offset_at tokens i
  pub some : (i : ℕ) → i < length tokens → offset_at tokens i < end_before tokens (suc i)
  pub rising : (i j : ℕ) → i ≤ j → j ≤ length tokens → end_before tokens i ≤ end_before tokens j
  pub within : (i : ℕ) → i ≤ length tokens → end_before tokens i ≤ length text

-- The tokens of a text are in order.
abbrev pub TokensAreInOrder : Type 0
TokensAreInOrder =
    (text : List ℕ) (tokens : List Token) → AreTokens text tokens → AreInOrder text tokens

-- ---- segments

-- bytes that are whole pieces, whatever stands behind them, with these tokens
abbrev pub IsSegment : List ℕ → List Lexeme → Type 0
IsSegment bytes ls =
    (ps : List Piece) × ((rest : List ℕ) → ArePieces ps rest)
    × (bytes ≡ pieces_text ps) × (ls ≡ lexemes ps)

-- Two segments one behind the other are a segment, with the tokens of both.
abbrev pub SegmentsJoin : Type 0
SegmentsJoin =
    (a b : List ℕ) (ls ms : List Lexeme) → IsSegment a ls → IsSegment b ms
    → IsSegment (a ++ b) (ls ++ ms)

-- the bytes from one place up to another
abbrev pub bytes_between : List ℕ → ℕ → ℕ → List ℕ
bytes_between text from to = take (to - from) (drop from text)

-- What stands between two places is a segment with the tokens between them, and can be asked for as
-- text.
abbrev pub BetweenPlaces : Type 0
BetweenPlaces =
    (text : List ℕ) (tokens : List Token) (i j from to : ℕ) → AreTokens text tokens
    → IsPlace tokens i from → IsPlace tokens j to → from ≤ to
    → IsSegment (bytes_between text from to) (take (j - i) (drop i (map (lexeme_at text) tokens)))
    × IsSpan text (record { start = from; end = to }) × (i ≤ j) × (j ≤ length tokens)

-- ---- the law

-- tokens i to j, but for j itself, are replaced: the text from one place up to the other becomes
-- another
pub record IsReplaced (text : List ℕ) (tokens : List Token) (i j from to : ℕ) (new : List ℕ)
    (ls : List Lexeme) (result : List ℕ) (after : List Token) : Type 0 where
  pub is : result ≡ take from text ++ (new ++ drop to text)
  pub put :
      Puts 0 text (record { at = from; old = bytes_between text from to; new = new } ∷ []) result
  pub lexed : AreTokens result after
  pub lexemes :
      map (lexeme_at result) after
      ≡ take i (map (lexeme_at text) tokens) ++ (ls ++ drop j (map (lexeme_at text) tokens))
  pub utf8 : IsUtf8 text → IsUtf8 new → IsUtf8 result

-- A segment may come in place of what stands between two places.
abbrev pub RunsAreReplaced : Type 0
RunsAreReplaced =
    (text : List ℕ) (tokens : List Token) (i j from to : ℕ) (new : List ℕ) (ls : List Lexeme)
    → AreTokens text tokens → IsPlace tokens i from → IsPlace tokens j to → from ≤ to
    → IsSegment new ls
    → (result : List ℕ) × (after : List Token)
    × IsReplaced text tokens i j from to new ls result after

-- ---- indices

-- the new index of token k, which stays, if n tokens come in place of tokens i to j
abbrev pub moved : ℕ → ℕ → ℕ → ℕ → ℕ
moved i j n k = if nat_lt k i then k else (k - j) + (i + n)

-- A token that stays has its word at its moved index, and the new ones stand between.
abbrev pub TokensAreMoved : Type 0
TokensAreMoved =
    (ls ns : List Lexeme) (i j : ℕ) → i ≤ j → j ≤ length ls
    → ((k : ℕ) → (k < i) ⊎ (j ≤ k)
    → word_at (take i ls ++ (ns ++ drop j ls)) (moved i j (length ns) k) ≡ word_at ls k)
    × ((k : ℕ) → k < length ns → word_at (take i ls ++ (ns ++ drop j ls)) (i + k) ≡ word_at ns k)

-- ---- text that is put in

-- bytes that stand in quotes as they are: no quote, no backslash, no line feed, no U+0000
abbrev pub is_plain : ℕ → Bool
is_plain b =
    not (b == ascii.quote || b == ascii.apostrophe || b == ascii.backslash
    || b == ascii.line_feed || b == ascii.nul)

-- the bytes between two `"`
abbrev pub quoted : List ℕ → List ℕ
quoted value = ascii.quote ∷ (value ++ ascii.quote ∷ [])

-- Plain bytes in quotes are a string token, which stands for them.
abbrev pub QuotedStandsForItself : Type 0
QuotedStandsForItself =
    (value : List ℕ) → EachByte is_plain value → IsUtf8 value
    → IsString (quoted value) × StandsFor (quoted value) value

-- A token that ends by itself is a segment.
abbrev pub TokenIsSegment : Type 0
TokenIsSegment =
    (kind : TokenKind) (bytes : List ℕ) → IsLexeme (Solid kind) bytes → EndsByItself kind
    → IsSegment bytes (record { kind = kind; text = bytes } ∷ [])

-- One white-space byte is a segment without tokens.
abbrev pub SpaceIsSegment : Type 0
SpaceIsSegment = (b : ℕ) → is_space b ≡ true → IsSegment (b ∷ []) []

-- A token before a segment that it does not run into makes a segment.
abbrev pub TokenBeforeSegment : Type 0
TokenBeforeSegment =
    (kind : TokenKind) (bytes : List ℕ) (b : ℕ) (more : List ℕ) (ls : List Lexeme)
    → IsLexeme (Solid kind) bytes → is_identifier b ≡ false → IsSegment (b ∷ more) ls
    → IsSegment (bytes ++ b ∷ more) (record { kind = kind; text = bytes } ∷ ls)

-- A number in decimal is a number token.
abbrev pub DecimalIsNumber : Type 0
DecimalIsNumber = (n : ℕ) → n < 2 ^ 64 → IsLexeme (Solid Number) (decimal n)

-- ---- the tokens of a text are in the lexical sets

-- Each token of a text is of the lexical set of its kind.
abbrev pub TokensAreLexemes : Type 0
TokensAreLexemes =
    (text : List ℕ) (tokens : List Token) → AreTokens text tokens
    → All (λ l. IsLexeme (Solid l.kind) l.text) (map (lexeme_at text) tokens)
