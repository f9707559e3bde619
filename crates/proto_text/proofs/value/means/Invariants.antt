use Rattle.std.proofs.Common.{◌↔◌, length}
use Rattle.proto_text.specs.Strings.{Means}
use Rattle.proto_text.proofs.value.means.Given as goal

abbrev pub invariant-loop-rest : goal.invariant-loop-rest
invariant-loop-rest l = Means l.rest l.left ↔ Means l.body l.value

abbrev pub decreases-loop-rest : goal.decreases-loop-rest
decreases-loop-rest l = length l.rest
