-- Where a cursor stands in a text.
use Rattle.std.specs.Prelude.{◌≡◌, ◌≤◌, length, take}
use Rattle.proto_base.specs.Texts.{Text}
use Rattle.proto_text.specs.Lines.{column_behind, line_behind}
use Rattle.protoref_output.specs.declared.place.Cursor.{Cursor}

-- the cursor stands at an offset of the text, and knows its line and column
pub record IsCursorIn (text : Text) (cursor : Cursor) : Type 0 where
  pub within : cursor.offset ≤ length text
  pub line : cursor.place.line ≡ line_behind (take cursor.offset text)
  pub column : cursor.place.column ≡ column_behind (take cursor.offset text)
