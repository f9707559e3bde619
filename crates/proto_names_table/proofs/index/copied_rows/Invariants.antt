use Rattle.std.proofs.Common.{◌≡◌, take}
use Rattle.proto_names_table.proofs.index.copied_rows.Given as goal

abbrev pub invariant-loop-row : goal.invariant-loop-row
invariant-loop-row l = l.copy.keys ≡ take l.row-index l.given
