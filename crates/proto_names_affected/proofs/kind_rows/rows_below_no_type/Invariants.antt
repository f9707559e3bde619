use Rattle.std.proofs.Common.{◌≡◌, filter, not, take}
use Rattle.proto_names_affected.specs.KindRows.{is_below_type}
use Rattle.proto_names_affected.proofs.kind_rows.rows_below_no_type.Given as goal

abbrev pub invariant-loop-row : goal.invariant-loop-row
invariant-loop-row l = l.found.items ≡ filter (λ row. not (is_below_type l.table row)) (take l.row-index l.rows)
