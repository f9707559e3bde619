-- A text edit, without where it lies in memory.
use Rattle.std.specs.String.{string_bytes}
use Rattle.proto_positions.specs.declared.edits.RangeEdit.{RangeEdit}
use Rattle.proto_positions.specs.TextEdits.{TextEdit}

-- the text edit that code answers
abbrev pub edit_view : RangeEdit → TextEdit
edit_view r = record { start = r.start; end = r.end; new = string_bytes r.new }
