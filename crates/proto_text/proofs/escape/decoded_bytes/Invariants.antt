use Rattle.std.proofs.Common.{length}
use Rattle.proto_text.proofs.Units.{MeansUpTo}
use Rattle.proto_text.proofs.escape.decoded_bytes.Given as goal

abbrev pub invariant-loop-rest : goal.invariant-loop-rest
invariant-loop-rest l = MeansUpTo l.body l.rest l.values.items

abbrev pub decreases-loop-rest : goal.decreases-loop-rest
decreases-loop-rest l = length l.rest
