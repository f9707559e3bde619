use Rattle.std.proofs.Common.{◌≡◌, take}
use Rattle.std.specs.List.{filter_map}
use Rattle.proto_names_affected.specs.KindRows.{kind_row}
use Rattle.proto_names_affected.proofs.kind_rows.kind_rows.Given as goal

abbrev pub invariant-loop-row : goal.invariant-loop-row
invariant-loop-row l = l.found.items ≡ filter_map (kind_row l.table) (take l.row-index l.rows)
