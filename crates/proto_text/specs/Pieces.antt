-- The pieces of a text: white space, comments and tokens, after the lexical elements of the
-- language specification. That numbers are whole is a choice of this profile.
use Rattle.std.specs.Prelude.{◌≡◌, ℕ, Bool, true, false, not, List, [], ◌∷◌, ◌++◌, ◌==◌, ◌&&◌, ◌||◌, ◌⊎◌, if◌then◌else◌}
use Rattle.std.specs.List.{list_all}
use Rattle.proto_base.specs.Ascii as ascii
use Rattle.proto_text.specs.declared.class.Class.{Class}
use Rattle.proto_text.specs.declared.class.Class.TheVariants.{Space, Letter, Digit, Quote, Mark, Slash, Other}
use Rattle.proto_text.specs.declared.kind.TokenKind.TheVariants.{Word, Number, Text, Punctuation}
use Rattle.proto_text.specs.declared.kind.PieceKind.{PieceKind}
use Rattle.proto_text.specs.declared.kind.PieceKind.TheVariants.{Blank, LineComment, BlockComment, Solid}
use Rattle.proto_text.specs.declared.fault.LexFault.{LexFault}
use Rattle.proto_text.specs.declared.fault.LexFault.TheVariants.{BadChar, OpenComment, OpenString, BadEscape, BadNumber}
use Rattle.proto_text.specs.Classes.{class_of, is_identifier, is_digit}
use Rattle.proto_text.specs.Bytes.{EachByte, Stops, is_octal, is_hex}
use Rattle.proto_text.specs.Strings.{IsString, IsQuoted, IsAllowed, is_body}

-- one byte of the class
abbrev pub IsOne : Class → List ℕ → Type 0
IsOne class bytes = (b : ℕ) × (bytes ≡ b ∷ []) × (class_of b ≡ class)

-- identifier characters, the first of the class
abbrev pub IsRun : Class → List ℕ → Type 0
IsRun class [] = ⊥
IsRun class (b ∷ bytes) = (class_of b ≡ class) × EachByte is_identifier bytes

-- `x` or `X`, and one or more hexadecimal digits
abbrev pub is_hex_tail : List ℕ → Bool
is_hex_tail [] = false
is_hex_tail (x ∷ []) = false
is_hex_tail (x ∷ d ∷ ds) = (x == ascii.lower_x || x == ascii.upper_x) && list_all is_hex (d ∷ ds)

-- `0`, a digit 1 to 9 and digits, `0` and octal digits, or `0x` or `0X` and hexadecimal digits
abbrev pub is_number : List ℕ → Bool
is_number [] = false
is_number (b ∷ bytes) =
    if b == ascii.zero then (list_all is_octal bytes || is_hex_tail bytes)
    else list_all is_digit (b ∷ bytes)

-- a byte other than a line feed
abbrev pub is_in_line : ℕ → Bool
is_in_line b = not (b == ascii.line_feed)

-- a byte that makes a slash before it a comment
abbrev pub opens_comment : ℕ → Bool
opens_comment b = b == ascii.slash || b == ascii.star

-- no `*/` stands in the bytes
abbrev pub HasNoClose : List ℕ → Type 0
HasNoClose bytes =
    (front back : List ℕ) → bytes ≡ front ++ ascii.star ∷ ascii.slash ∷ back → ⊥

-- `//`, and bytes that are no line feed
abbrev pub IsLineComment : List ℕ → Type 0
IsLineComment bytes =
    (body : List ℕ) × (bytes ≡ ascii.slash ∷ ascii.slash ∷ body) × EachByte is_in_line body

-- `/*`, bytes in which no `*/` stands, and `*/`
abbrev pub IsBlockComment : List ℕ → Type 0
IsBlockComment bytes =
    (body : List ℕ)
    × (bytes ≡ ascii.slash ∷ ascii.star ∷ (body ++ ascii.star ∷ ascii.slash ∷ []))
    × HasNoClose body

-- the bytes are a piece of the kind
abbrev pub IsLexeme : PieceKind → List ℕ → Type 0
IsLexeme Blank bytes = IsOne Space bytes
IsLexeme LineComment bytes = IsLineComment bytes
IsLexeme BlockComment bytes = IsBlockComment bytes
IsLexeme (Solid Word) bytes = IsRun Letter bytes
IsLexeme (Solid Number) bytes = IsRun Digit bytes × (is_number bytes ≡ true)
IsLexeme (Solid Text) bytes = IsString bytes
IsLexeme (Solid Punctuation) bytes = IsOne Mark bytes

-- what may stand behind such a piece: a word or number takes all identifier characters that follow,
-- and a line comment all bytes up to a line feed
abbrev pub EndsBefore : PieceKind → List ℕ → Type 0
EndsBefore Blank rest = Unit {0}
EndsBefore LineComment rest = Stops is_in_line rest
EndsBefore BlockComment rest = Unit {0}
EndsBefore (Solid Word) rest = Stops is_identifier rest
EndsBefore (Solid Number) rest = Stops is_identifier rest
EndsBefore (Solid Text) rest = Unit {0}
EndsBefore (Solid Punctuation) rest = Unit {0}

-- a piece of a text: its kind, and its bytes
pub record Piece : Type 0 where
  pub kind : PieceKind
  pub bytes : List ℕ

-- the text of pieces: their bytes, one piece after the other
abbrev pub pieces_text : List Piece → List ℕ
pieces_text [] = []
pieces_text (p ∷ ps) = p.bytes ++ pieces_text ps

-- the pieces stand one after the other, and rest behind them
abbrev pub ArePieces : List Piece → List ℕ → Type 0
ArePieces [] rest = Unit {0}
ArePieces (p ∷ ps) rest =
    IsLexeme p.kind p.bytes × EndsBefore p.kind (pieces_text ps ++ rest) × ArePieces ps rest

-- the text is these pieces, and then rest
abbrev pub IsFront : List ℕ → List Piece → List ℕ → Type 0
IsFront text ps rest = ArePieces ps rest × (text ≡ pieces_text ps ++ rest)

-- the text is made of these pieces, which either language may have
abbrev pub IsMadeOf : List ℕ → List Piece → Type 0
IsMadeOf text ps = IsFront text ps []

-- no whole and allowed piece begins, and why
abbrev pub IsFault : LexFault → List ℕ → Type 0
IsFault BadChar rest =
    (c : ℕ) × (more : List ℕ) × (rest ≡ c ∷ more)
    × ((class_of c ≡ Other) ⊎ ((class_of c ≡ Slash) × Stops opens_comment more))
IsFault OpenComment rest =
    (more : List ℕ) × (rest ≡ ascii.slash ∷ ascii.star ∷ more) × HasNoClose more
IsFault OpenString rest =
    (c : ℕ) × (more : List ℕ) × (rest ≡ c ∷ more) × (class_of c ≡ Quote)
    × ((body back : List ℕ) → more ≡ body ++ c ∷ back → is_body false c body ≡ true → ⊥)
IsFault BadEscape rest =
    (text more : List ℕ) × (c : ℕ) × (body : List ℕ) × (rest ≡ text ++ more)
    × IsQuoted text c body × (IsAllowed body → ⊥)
IsFault BadNumber rest =
    (run more : List ℕ) × (rest ≡ run ++ more) × IsRun Digit run
    × Stops is_identifier more × (is_number run ≡ false)
