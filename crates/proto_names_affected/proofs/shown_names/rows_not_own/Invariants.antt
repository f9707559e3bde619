use Rattle.std.proofs.Common.{take}
use Rattle.proto_names_affected.proofs.Sights.{AreForeign}
use Rattle.proto_names_affected.proofs.shown_names.rows_not_own.Given as goal

abbrev pub invariant-loop-row : goal.invariant-loop-row
invariant-loop-row l = AreForeign (take l.row-index l.packages.keys) l.own l.packages.keys l.rows.items
