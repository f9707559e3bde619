use Rattle.std.proofs.Common.{◌≡◌, ◌≤◌, ◌*◌, take}
use Rattle.proto_positions.specs.Positions.{walk_of}
use Rattle.proto_positions.proofs.position.Cursor.moved_to.Given as goal

abbrev pub invariant-loop-at : goal.invariant-loop-at
invariant-loop-at l = record {
  walk : l.walk ≡ walk_of l.encoding (take l.at l.text);
  few_lines : l.walk.line ≤ l.at;
  few_columns : l.walk.column ≤ 2 * l.at;
}
