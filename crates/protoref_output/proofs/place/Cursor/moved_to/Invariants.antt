use Rattle.std.proofs.Common.{◌≡◌, ◌≤◌, ◌+◌, take}
use Rattle.proto_text.specs.Lines.{line_behind, column_behind}
use Rattle.protoref_output.proofs.place.Cursor.moved_to.Given as goal

abbrev pub invariant-loop-at : goal.invariant-loop-at
invariant-loop-at l = record {
  line : l.place.line ≡ line_behind (take l.at l.text);
  column : l.place.column ≡ column_behind (take l.at l.text);
  within : l.at ≤ l.end;
  few_lines : l.place.line ≤ 1 + l.at;
  few_columns : l.place.column ≤ 1 + l.at;
}
