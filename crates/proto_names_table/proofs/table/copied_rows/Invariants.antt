use Rattle.std.proofs.Common.{◌≡◌, map, take}
use Rattle.proto_names_table.specs.Tables.{row_of}
use Rattle.proto_names_table.proofs.table.copied_rows.Given as goal

abbrev pub invariant-loop-row : goal.invariant-loop-row
invariant-loop-row l = map row_of l.copy.items ≡ map row_of (take l.row-index l.rows)
