use Rattle.proto_answers.proofs.LoneReturns.{NoneBelow}
use Rattle.proto_answers.proofs.line_ends.has_lone_return.Given as goal

abbrev pub invariant-loop-offset : goal.invariant-loop-offset
invariant-loop-offset l = NoneBelow l.text l.offset
