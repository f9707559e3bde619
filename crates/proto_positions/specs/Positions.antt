-- Positions in a text as the Language Server Protocol has them: a line ends at CR LF, at LF and at
-- a lone CR; lines and columns are counted from 0, columns in the units of an encoding.
use Rattle.std.specs.Prelude.{◌≡◌, ℕ, ◌+◌, ◌-◌, ◌*◌, ◌<◌, ◌≤◌, Bool, true, false, ◌&&◌, ◌||◌, ◌==◌, not, [], ◌∷◌, length, take, slice_index, nat_le, nat_lt, if◌then◌else◌}
use Rattle.std.specs.List.{fold}
use Rattle.std.specs.Str.{IsCharBoundary}
use Rattle.proto_base.specs.Ascii as ascii
use Rattle.proto_base.specs.Texts.{Text}
use Rattle.proto_positions.specs.declared.encoding.Encoding.{Encoding}
use Rattle.proto_positions.specs.declared.encoding.Encoding.TheVariants.{Utf8, Utf16}
use Rattle.proto_positions.specs.declared.position.Position.{Position}
use Rattle.proto_positions.specs.declared.position.Cursor.{Cursor}
use Rattle.proto_positions.specs.declared.walk.Walk.{Walk}

-- a byte of a character of UTF-8 that is not its first
abbrev pub is_inner : ℕ → Bool
is_inner b = nat_le 128 b && nat_lt b 192

-- a byte of a line end
abbrev pub is_end : ℕ → Bool
is_end b = b == ascii.line_feed || b == ascii.carriage_return

-- How many units a byte adds. In UTF-16 a character adds all of its units at its first byte: two
-- where it has four bytes, else one. In UTF-8 each byte is a unit.
abbrev pub units : Encoding → ℕ → ℕ
units Utf8 b = 1
units Utf16 b = if is_inner b then 0 else (if nat_lt b 240 then 1 else 2)

-- where a text begins
abbrev pub start : Walk
start = record { line = 0; column = 0; follows_return = false }

-- One byte further. A line feed that follows a carriage return ends the line together with it.
abbrev pub step : Encoding → Walk → ℕ → Walk
step e w b =
    if b == ascii.carriage_return
    then record { line = w.line + 1; column = 0; follows_return = true }
    else (if b == ascii.line_feed
    then record {
      line = if w.follows_return then w.line else w.line + 1;
      column = 0;
      follows_return = false;
    }
    else record { line = w.line; column = w.column + units e b; follows_return = false })

-- where a text ends
abbrev pub walk_of : Encoding → Text → Walk
walk_of e text = fold (step e) start text

-- the position of an offset: the lines that end before it, and the units of its own line before it
abbrev pub position_of : Encoding → Text → ℕ → Position
position_of e text offset =
    record {
      line = (walk_of e (take offset text)).line;
      character = (walk_of e (take offset text)).column;
    }

-- Before this byte the walk has reached the column, or the end of the line: never within a
-- character or a line end.
abbrev pub is_reached : Walk → ℕ → Position → Bool
is_reached w b p =
    w.line == p.line && not (w.follows_return && b == ascii.line_feed)
    && (is_end b || (nat_le p.character w.column && not (is_inner b)))

-- how many bytes further the position is; the text's end where it has no such line
abbrev pub offset_from : Encoding → Walk → Text → Position → ℕ
offset_from e w [] p = 0
offset_from e w (b ∷ bs) p = if is_reached w b p then 0 else offset_from e (step e w b) bs p + 1

-- the offset of a position: of its line's end, where the line is shorter, and of the end of a
-- character, where it is within one
abbrev pub offset_of : Encoding → Text → Position → ℕ
offset_of e text p = offset_from e start text p

-- An offset that has a position of its own: where a character begins or the text ends, and not
-- between the two bytes of a line end.
pub record HasPosition (text : Text) (offset : ℕ) : Type 0 where
  pub boundary : IsCharBoundary text offset
  pub whole :
      0 < offset → offset < length text → slice_index text (offset - 1) ≡ ascii.carriage_return
      → slice_index text offset ≡ ascii.line_feed → ⊥

-- the cursor is at an offset of the text, and has the walk up to there
pub record IsCursorIn (e : Encoding) (text : Text) (cursor : Cursor) : Type 0 where
  pub within : cursor.offset ≤ length text
  pub walk : cursor.walk ≡ walk_of e (take cursor.offset text)
  pub few_lines : cursor.walk.line ≤ cursor.offset
  pub few_columns : cursor.walk.column ≤ 2 * cursor.offset
