use Rattle.proto_desc.specs.Renewing.{ArePut}
use Rattle.proto_desc.proofs.descriptors.Descriptors.put.Given as goal

abbrev pub invariant-loop-made : goal.invariant-loop-made
invariant-loop-made l = ArePut l.yielded l.initial.self l.self
