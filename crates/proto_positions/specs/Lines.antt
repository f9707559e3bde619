-- The lines of a text, as the Language Server Protocol says what they are, and the laws by which
-- positions count them.
use Rattle.std.specs.Prelude.{◌≡◌, ◌≢◌, ◌⊎◌, ℕ, zero, suc, ◌+◌, ◌<◌, ◌≤◌, true, false, [], ◌∷◌, ◌++◌, length}
use Rattle.std.specs.List.{AllByRecursion, sum_by}
use Rattle.proto_base.specs.Ascii as ascii
use Rattle.proto_base.specs.Texts.{Text}
use Rattle.proto_positions.specs.declared.encoding.Encoding.{Encoding}
use Rattle.proto_positions.specs.declared.position.Position.{Position}
use Rattle.proto_positions.specs.Positions.{is_inner, offset_of, position_of, units}

-- no byte of a line end
abbrev pub HasNoEnd : Text → Type 0
HasNoEnd line = AllByRecursion (λ b. (b ≢ ascii.carriage_return) × (b ≢ ascii.line_feed)) line

-- a text that does not begin with a line feed
abbrev pub BeginsNoFeed : Text → Type 0
BeginsNoFeed [] = Unit {0}
BeginsNoFeed (b ∷ bs) = b ≢ ascii.line_feed

-- what ends a line before the rest of a text: CR LF, LF, or a CR that no LF follows
abbrev pub IsLineEnd : Text → Text → Type 0
IsLineEnd end rest =
    (end ≡ ascii.carriage_return ∷ ascii.line_feed ∷ [])
    ⊎ ((end ≡ ascii.line_feed ∷ []) ⊎ ((end ≡ ascii.carriage_return ∷ []) × BeginsNoFeed rest))

-- so many lines, each with its end, before the rest of a text
abbrev pub AreLines : ℕ → Text → Text → Type 0
AreLines zero before rest = before ≡ []
AreLines (suc n) before rest =
    (line end more : Text) × (before ≡ line ++ (end ++ more)) × HasNoEnd line
    × IsLineEnd end (more ++ rest) × AreLines n more rest

-- where a line ends: at the end of the text, or before a line end
abbrev pub IsAtLineEnd : Text → Type 0
IsAtLineEnd [] = Unit {0}
IsAtLineEnd (b ∷ bs) = (b ≡ ascii.carriage_return) ⊎ (b ≡ ascii.line_feed)

-- A position counts the lines before its own, and the units of its own line before it.
abbrev pub PositionsCountLines : Type 0
PositionsCountLines =
    (e : Encoding) (n : ℕ) (before line rest : Text) → AreLines n before (line ++ rest)
    → HasNoEnd line
    → position_of e (before ++ (line ++ rest)) (length before + length line)
    ≡ record { line = n; character = sum_by (units e) line }

-- A column past its line leads to the line's end.
abbrev pub ColumnsEndWithTheLine : Type 0
ColumnsEndWithTheLine =
    (e : Encoding) (n : ℕ) (before line rest : Text) (p : Position)
    → AreLines n before (line ++ rest) → HasNoEnd line → IsAtLineEnd rest
    → p.line ≡ n → sum_by (units e) line ≤ p.character
    → offset_of e (before ++ (line ++ rest)) p ≡ length before + length line

-- A line past the text leads to the text's end.
abbrev pub LinesEndWithTheText : Type 0
LinesEndWithTheText =
    (e : Encoding) (n : ℕ) (before line : Text) (p : Position)
    → AreLines n before line → HasNoEnd line → n < p.line
    → offset_of e (before ++ line) p ≡ length before + length line

-- the bytes of one character: the first, and its inner ones
abbrev pub IsCharacter : Text → Type 0
IsCharacter [] = ⊥
IsCharacter (b ∷ bs) = (is_inner b ≡ false) × AllByRecursion (λ c. is_inner c ≡ true) bs

-- a text that does not begin within a character
abbrev pub BeginsNoInner : Text → Type 0
BeginsNoInner [] = Unit {0}
BeginsNoInner (b ∷ bs) = is_inner b ≡ false

-- A column after the beginning of a character, up to its end, leads to its end.
abbrev pub ColumnsEndWithTheCharacter : Type 0
ColumnsEndWithTheCharacter =
    (e : Encoding) (n : ℕ) (before line character rest : Text) (p : Position)
    → AreLines n before ((line ++ character) ++ rest) → HasNoEnd line → HasNoEnd character
    → IsCharacter character → BeginsNoInner rest
    → p.line ≡ n → sum_by (units e) line < p.character
    → p.character ≤ sum_by (units e) line + sum_by (units e) character
    → offset_of e (before ++ ((line ++ character) ++ rest)) p
    ≡ length before + (length line + length character)
