-- The tokens of the pieces of a text.
use Rattle.std.specs.Prelude.{◌≡◌, ◌⊎◌, ℕ, ◌+◌, ◌++◌, false, List, [], ◌∷◌, length, map, Result, Ok, Err}
use Rattle.std.specs.Global.{Vec}
use Rattle.std.specs.List.{Contains}
use Rattle.proto_base.specs.Ascii as ascii
use Rattle.proto_base.specs.Texts.{Text}
use Rattle.proto_text.specs.declared.kind.PieceKind.{PieceKind}
use Rattle.proto_text.specs.declared.kind.PieceKind.TheVariants.{Blank, LineComment, BlockComment, Solid}
use Rattle.proto_text.specs.declared.fault.LexFault.{LexFault}
use Rattle.proto_text.specs.declared.fault.LexFault.TheVariants.{BadChar}
use Rattle.proto_base.specs.declared.profile.Profile.{Profile}
use Rattle.proto_base.specs.declared.profile.Profile.TheVariants as profile
use Rattle.proto_text.specs.Profiles.{may_begin, AreAllowed, IsPiecesIn}
use Rattle.proto_base.specs.declared.or_no_memory.OrNoMemory.{OrNoMemory}
use Rattle.proto_base.specs.declared.or_no_memory.OrNoMemory.TheVariants as or
use Rattle.proto_text.specs.SourceFacts.{text_at}
use Rattle.proto_text.specs.declared.kind.TokenKind.{TokenKind}
use Rattle.proto_text.specs.declared.kind.TokenKind.TheVariants.{Punctuation}
use Rattle.proto_text.specs.declared.lexer.Token.{Token}
use Rattle.proto_text.specs.declared.fault.TextFault.{TextFault}
use Rattle.proto_text.specs.declared.fault.TextFault.TheVariants.{TooLarge, NotUtf8, At, NoMemory}
use Rattle.proto_text.specs.Pieces.{Piece, pieces_text, IsFault, IsFront, IsMadeOf}

-- the token of a piece of n bytes at an offset, if it is one
abbrev pub token_at : PieceKind → ℕ → ℕ → List Token
token_at Blank at n = []
token_at LineComment at n = []
token_at BlockComment at n = []
token_at (Solid kind) at n = record { kind = kind; span = record { start = at; end = at + n } } ∷ []

-- the tokens of pieces that begin at an offset
abbrev pub tokens_from : ℕ → List Piece → List Token
tokens_from at [] = []
tokens_from at (p ∷ ps) =
    token_at p.kind at (length p.bytes) ++ tokens_from (at + length p.bytes) ps

-- the tokens are those of some pieces of the text, in either language
abbrev pub AreTokens : Text → List Token → Type 0
AreTokens text tokens = (ps : List Piece) × IsMadeOf text ps × (tokens ≡ tokens_from 0 ps)

-- the same, and the language has each of the pieces
abbrev pub AreTokensIn : Profile → Text → List Token → Type 0
AreTokensIn p text tokens =
    (ps : List Piece) × IsPiecesIn p text ps × (tokens ≡ tokens_from 0 ps)

-- no whole and allowed piece of the language begins, and why: what begins none in this language
-- alone is a BadChar
abbrev pub NothingBegins : Profile → LexFault → List ℕ → Type 0
NothingBegins p fault rest = IsFault fault rest ⊎ ((fault ≡ BadChar) × (may_begin p rest ≡ false))

-- Whole pieces of the language stand before the offset, and at it stands what the fault says.
abbrev pub IsFaultIn : Profile → Text → ℕ → LexFault → Type 0
IsFaultIn p text offset fault =
    (ps : List Piece) × (rest : List ℕ) × IsFront text ps rest × AreAllowed p ps
    × (offset ≡ length (pieces_text ps)) × NothingBegins p fault rest

-- the same in the core language
abbrev pub IsFaultAt : Text → ℕ → LexFault → Type 0
IsFaultAt text offset fault = IsFaultIn profile.Core text offset fault

-- a fault of the piece at an offset
abbrev pub text_fault_of : ℕ → OrNoMemory LexFault → TextFault
text_fault_of offset (or.Fault fault) = At offset fault
text_fault_of offset or.NoMemory = NoMemory

-- an error of lexing: memory, or the fault
abbrev pub IsLexErrorIn : Profile → Text → TextFault → Type 0
IsLexErrorIn p text (At offset fault) = IsFaultIn p text offset fault
IsLexErrorIn p text NoMemory = Unit {0}
IsLexErrorIn p text TooLarge = ⊥
IsLexErrorIn p text NotUtf8 = ⊥

-- the same in the core language
abbrev pub IsLexError : Text → TextFault → Type 0
IsLexError text fault = IsLexErrorIn profile.Core text fault

-- what lexing answers
abbrev pub IsLexed : Profile → Text → Result (Vec Token) TextFault → Type 0
IsLexed p text (Ok tokens) = AreTokensIn p text tokens.items
IsLexed p text (Err e) = IsLexErrorIn p text e

-- what a parser reads: the kind of a token, and its text
pub record Lexeme : Type 0 where
  pub kind : TokenKind
  pub text : Text

-- what a parser reads of a piece: nothing but a token
abbrev pub lexeme_if : PieceKind → Text → List Lexeme
lexeme_if Blank bytes = []
lexeme_if LineComment bytes = []
lexeme_if BlockComment bytes = []
lexeme_if (Solid kind) bytes = record { kind = kind; text = bytes } ∷ []

-- what a parser reads of pieces: the tokens among them
abbrev pub lexemes : List Piece → List Lexeme
lexemes [] = []
lexemes (p ∷ ps) = lexeme_if p.kind p.bytes ++ lexemes ps

-- what a parser reads of a token: its kind, and the text at its span
abbrev pub lexeme_at : Text → Token → Lexeme
lexeme_at text t = record { kind = t.kind; text = text_at text t.span }

-- The texts at the tokens of a text are those of its pieces.
abbrev pub TokensReadPieces : Type 0
TokensReadPieces =
    (text : List ℕ) (ps : List Piece) → IsMadeOf text ps
    → map (lexeme_at text) (tokens_from 0 ps) ≡ lexemes ps

-- A text has one list of tokens.
abbrev pub OneTokenList : Type 0
OneTokenList =
    (text : List ℕ) (a b : List Token) → AreTokens text a → AreTokens text b → a ≡ b

-- A text with tokens of a language has no fault in it.
abbrev pub NoFaultWithTokensIn : Profile → Type 0
NoFaultWithTokensIn p =
    (text : List ℕ) (tokens : List Token) (offset : ℕ) (fault : LexFault)
    → AreTokensIn p text tokens → IsFaultIn p text offset fault → ⊥

-- the same in the core language
abbrev pub NoFaultWithTokens : Type 0
NoFaultWithTokens = NoFaultWithTokensIn profile.Core

-- Tokens of any language are the tokens of the text.
abbrev pub TokensOfText : Type 0
TokensOfText =
    (p : Profile) (text : List ℕ) (tokens : List Token) → AreTokensIn p text tokens
    → AreTokens text tokens

-- The tokens of a text, those of the core language too, are tokens of the language as written.
abbrev pub TokensAreWritten : Type 0
TokensAreWritten =
    (text : List ℕ) (tokens : List Token) → AreTokens text tokens
    → AreTokensIn profile.AsWritten text tokens

-- the token `:` as a parser reads it
abbrev pub colon_lexeme : Lexeme
colon_lexeme = record { kind = Punctuation; text = ascii.colon ∷ [] }

-- None of the tokens of the core language is a `:`.
abbrev pub CoreTokensHaveNoColon : Type 0
CoreTokensHaveNoColon =
    (text : List ℕ) (tokens : List Token) → AreTokensIn profile.Core text tokens
    → Contains (map (lexeme_at text) tokens) colon_lexeme → ⊥

-- Tokens none of which is a `:` are tokens of the core language.
abbrev pub TokensWithoutColon : Type 0
TokensWithoutColon =
    (text : List ℕ) (tokens : List Token) → AreTokens text tokens
    → (Contains (map (lexeme_at text) tokens) colon_lexeme → ⊥)
    → AreTokensIn profile.Core text tokens
