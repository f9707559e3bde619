-- Text edits of the Language Server Protocol, and what a list of them makes of a text; the laws of
-- positions.
use Rattle.std.specs.Prelude.{◌≡◌, ◌≢◌, ◌⊎◌, ℕ, ◌+◌, ◌<◌, ◌≤◌, true, List, [], ◌∷◌, ◌++◌, length, take, drop, map, slice_index}
use Rattle.std.specs.Char.Escape.{encode_utf16}
use Rattle.std.specs.Str.{IsUtf8, all_scalars, encode_utf8_all}
use Rattle.std.specs.List.{AllByRecursion, sum_by}
use Rattle.proto_base.specs.Ascii as ascii
use Rattle.proto_base.specs.Texts.{Text}
use Rattle.proto_text.specs.Edits.{AreShort, Edit, Puts}
use Rattle.proto_positions.specs.declared.encoding.Encoding.{Encoding}
use Rattle.proto_positions.specs.declared.encoding.Encoding.TheVariants.{Utf16}
use Rattle.proto_positions.specs.declared.position.Position.{Position}
use Rattle.proto_positions.specs.Positions.{HasPosition, offset_of, position_of, units}

-- a text edit: the range that it replaces, and what comes in its place
pub record TextEdit : Type 0 where
  pub start : Position
  pub end : Position
  pub new : Text

-- Text edits in their order, made from the last to the first, so that each range is one of the text
-- before all of them.
abbrev pub lsp_put : Encoding → Text → List TextEdit → Text
lsp_put e text [] = text
lsp_put e text (t ∷ ts) =
    take (offset_of e text t.start) (lsp_put e text ts)
    ++ (t.new ++ drop (offset_of e text t.end) (lsp_put e text ts))

-- the first position is the second one, or one before it
abbrev pub IsUpTo : Position → Position → Type 0
IsUpTo p q = (p.line < q.line) ⊎ ((p.line ≡ q.line) × (p.character ≤ q.character))

-- Each text edit begins where the one before ends, or later, so that none overlaps another.
abbrev pub AreInOrder : Position → List TextEdit → Type 0
AreInOrder from [] = Unit {0}
AreInOrder from (t ∷ ts) = IsUpTo from t.start × IsUpTo t.start t.end × AreInOrder t.end ts

-- where a text begins
abbrev pub beginning : Position
beginning = record { line = 0; character = 0 }

-- the text edit of an edit of the text
abbrev pub text_edit : Encoding → Text → Edit → TextEdit
text_edit e text ed =
    record {
      start = position_of e text ed.at;
      end = position_of e text (ed.at + length ed.old);
      new = ed.new;
    }

-- both ends of an edit have positions of their own
abbrev pub HavePositions : Text → Edit → Type 0
HavePositions text ed = HasPosition text ed.at × HasPosition text (ed.at + length ed.old)

-- Edits that put a text do so as text edits.
abbrev pub TextEditsPut : Type 0
TextEditsPut =
    (e : Encoding) (text new : Text) (es : List Edit) → Puts 0 text es new
    → AllByRecursion (HavePositions text) es → lsp_put e text (map (text_edit e text) es) ≡ new

-- The text edits of edits in order are in order.
abbrev pub TextEditsAreInOrder : Type 0
TextEditsAreInOrder =
    (e : Encoding) (text : Text) (es : List Edit) → AreShort 0 0 es
    → AreInOrder beginning (map (text_edit e text) es)

-- An offset that has a position of its own is found from its position.
abbrev pub PositionsLeadBack : Type 0
PositionsLeadBack =
    (e : Encoding) (text : Text) (offset : ℕ) → HasPosition text offset
    → offset_of e text (position_of e text offset) ≡ offset

-- The offset of any position has a position of its own.
abbrev pub OffsetsHavePositions : Type 0
OffsetsHavePositions =
    (e : Encoding) (text : Text) (p : Position) → HasPosition text (offset_of e text p)

-- Units of UTF-16, by the first bytes of characters, are those that the characters have in UTF-16.
abbrev pub UnitsAreUtf16 : Type 0
UnitsAreUtf16 =
    (cs : List ℕ) → all_scalars cs ≡ true
    → sum_by (units Utf16) (encode_utf8_all cs) ≡ sum_by (λ c. length (encode_utf16 c)) cs

-- An ASCII byte other than a line feed begins, and one other than a carriage return ends, at an
-- offset that has a position of its own.
abbrev pub AsciiHasPositions : Type 0
AsciiHasPositions =
    (text : Text) (o : ℕ) → IsUtf8 text → o < length text → slice_index text o < 128
    → (slice_index text o ≢ ascii.line_feed → HasPosition text o)
    × (slice_index text o ≢ ascii.carriage_return → HasPosition text (o + 1))
