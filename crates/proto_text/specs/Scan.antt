-- The first piece of a text, from its first bytes: the same sets as functions.
use Rattle.std.specs.Prelude.{ℕ, ◌+◌, suc, Bool, false, List, [], ◌∷◌, ◌==◌, ◌&&◌, take, if◌then◌else◌, Option, Some, None, option_map, Result, Ok, Err}
use Rattle.std.specs.List.{prefix_len}
use Rattle.proto_base.specs.Ascii as ascii
use Rattle.proto_text.specs.declared.class.Class.{Class}
use Rattle.proto_text.specs.declared.class.Class.TheVariants.{Space, Letter, Digit, Quote, Mark, Slash, Other}
use Rattle.proto_text.specs.declared.kind.TokenKind.TheVariants.{Word, Number, Text, Punctuation}
use Rattle.proto_text.specs.declared.kind.PieceKind.{PieceKind}
use Rattle.proto_text.specs.declared.kind.PieceKind.TheVariants.{Blank, LineComment, BlockComment, Solid}
use Rattle.proto_text.specs.declared.fault.LexFault.{LexFault}
use Rattle.proto_text.specs.declared.fault.LexFault.TheVariants.{BadChar, OpenComment, OpenString, BadNumber}
use Rattle.proto_text.specs.Classes.{class_of, is_identifier}
use Rattle.proto_text.specs.Strings.{end_len}
use Rattle.proto_text.specs.Pieces.{is_number, is_in_line}

-- how many bytes there are through the first `*/`; star says that a `*` stands before them
unfoldable pub close_len : Bool → List ℕ → Option ℕ
close_len star [] = None
close_len star (b ∷ bytes) =
    if star && b == ascii.slash then Some 1
    else option_map suc (close_len (b == ascii.star) bytes)

-- what begins some bytes: a piece of a kind, so many bytes long, or a fault
abbrev pub PieceFound : Type 0
PieceFound = Result (PieceKind × ℕ) LexFault

-- the block comment that ends n bytes behind its `/*`, if it ends
abbrev pub block_found : Option ℕ → PieceFound
block_found None = Err OpenComment
block_found (Some n) = Ok (BlockComment, 2 + n)

-- the comment that the bytes behind a slash begin
unfoldable pub comment_at : List ℕ → PieceFound
comment_at [] = Err BadChar
comment_at (b ∷ bytes) =
    if b == ascii.slash then Ok (LineComment, 2 + prefix_len is_in_line bytes)
    else (if b == ascii.star then block_found (close_len false bytes)
    else Err BadChar)

-- the first n bytes as a number, if they are one
unfoldable pub scanned_number : ℕ → List ℕ → PieceFound
scanned_number n bytes = if is_number (take n bytes) then Ok (Solid Number, n) else Err BadNumber

-- the string that ends n bytes behind its first quote, if it ends
abbrev pub string_found : Option ℕ → PieceFound
string_found None = Err OpenString
string_found (Some n) = Ok (Solid Text, 1 + n)

-- the string of the bytes behind a quote; what it stands for is not looked at
unfoldable pub scanned_string : ℕ → List ℕ → PieceFound
scanned_string quote bytes = string_found (end_len false quote bytes)

-- the piece that a byte of the class begins, with the bytes behind it
abbrev pub piece_of : Class → ℕ → List ℕ → PieceFound
piece_of Space b bytes = Ok (Blank, 1)
piece_of Letter b bytes = Ok (Solid Word, 1 + prefix_len is_identifier bytes)
piece_of Digit b bytes = scanned_number (1 + prefix_len is_identifier bytes) (b ∷ bytes)
piece_of Quote b bytes = scanned_string b bytes
piece_of Mark b bytes = Ok (Solid Punctuation, 1)
piece_of Slash b bytes = comment_at bytes
piece_of Other b bytes = Err BadChar

-- the kind of the piece that begins the bytes, and how many it takes
unfoldable pub piece_at : List ℕ → PieceFound
piece_at [] = Err BadChar
piece_at (b ∷ bytes) = piece_of (class_of b) b bytes
