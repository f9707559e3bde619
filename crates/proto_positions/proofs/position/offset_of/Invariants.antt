use Rattle.std.proofs.Common.{◌≡◌, ◌≤◌, ◌+◌, ◌*◌, drop}
use Rattle.proto_positions.specs.Positions.{offset_from, offset_of}
use Rattle.proto_positions.proofs.position.offset_of.Given as goal

abbrev pub invariant-loop-at : goal.invariant-loop-at
invariant-loop-at l = record {
  rest : l.at + offset_from l.encoding l.walk (drop l.at l.text) l.position ≡ offset_of l.encoding l.text l.position;
  few_lines : l.walk.line ≤ l.at;
  few_columns : l.walk.column ≤ 2 * l.at;
}
