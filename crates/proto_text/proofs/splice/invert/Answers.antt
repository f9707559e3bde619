use Rattle.proto_text.proofs.EditLaws.{inverse_short}
use Rattle.proto_text.proofs.splice.invert.Goals as goal

pub invariant_of-result : goal.invariant_of-result
invariant_of-result c = rw c.inverse_splices.ensures (inverse_short 0 0 _ c.splices.invariant)
