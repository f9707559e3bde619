use Rattle.std.proofs.Common.{◌≡◌, ◌≤◌, ◌+◌, take}
use Rattle.proto_text.specs.Lines.{line_behind, column_behind}
use Rattle.proto_text.proofs.source.last_line_col.Given as goal

abbrev pub invariant-loop-byte : goal.invariant-loop-byte
invariant-loop-byte l = record {
  line : l.line ≡ line_behind (take l.byte-index l.front);
  column : l.column ≡ column_behind (take l.byte-index l.front);
  few_lines : l.line ≤ 1 + l.byte-index;
  few_columns : l.column ≤ 1 + l.byte-index;
}
