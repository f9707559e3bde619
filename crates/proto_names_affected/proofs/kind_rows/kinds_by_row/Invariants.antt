use Rattle.std.proofs.Common.{take}
use Rattle.proto_names_affected.specs.KindRows.{AreKindsOf}
use Rattle.proto_names_affected.proofs.kind_rows.kinds_by_row.Given as goal

abbrev pub invariant-loop-pair : goal.invariant-loop-pair
invariant-loop-pair l = AreKindsOf (take l.pair-index l.pairs) l.kinds
