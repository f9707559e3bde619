use Rattle.std.proofs.Common.{rules}
use Rattle.proto_text.proofs.splice.Splices.new.Goals as goal

pub invariant_of-result : goal.invariant_of-result
invariant_of-result c = search rules
