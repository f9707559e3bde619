use Rattle.std.proofs.Common.{take}
use Rattle.proto_names_affected.specs.KindRows.{AreAmongOr}
use Rattle.proto_names_affected.proofs.kind_rows.rows_not_among.Given as goal

abbrev pub invariant-loop-pair : goal.invariant-loop-pair
invariant-loop-pair l = AreAmongOr (take l.pair-index l.one) l.other l.rows.items
