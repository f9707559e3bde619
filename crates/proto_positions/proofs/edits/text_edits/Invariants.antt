use Rattle.std.proofs.Common.{◌≡◌, map, take}
use Rattle.proto_text.specs.Splicing.{edits}
use Rattle.proto_positions.specs.EditViews.{edit_view}
use Rattle.proto_positions.specs.Positions.{IsCursorIn}
use Rattle.proto_positions.specs.TextEdits.{text_edit}
use Rattle.proto_positions.proofs.edits.text_edits.Given as goal

abbrev pub invariant-loop-splice : goal.invariant-loop-splice
invariant-loop-splice l = record {
  made : map edit_view l.edits.items ≡ map (text_edit l.encoding l.text) (edits (take l.splice-index l.splice-items));
  cursor : IsCursorIn l.encoding l.text l.cursor;
}
