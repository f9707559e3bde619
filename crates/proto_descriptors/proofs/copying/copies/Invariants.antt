use Rattle.std.proofs.Common.{◌≡◌, map, take}
use Rattle.proto_descriptors.proofs.copying.copies.Given as goal

abbrev pub invariant-loop-value : goal.invariant-loop-value
invariant-loop-value g l = map g.T.HasCopy.view l.copy.items ≡ map g.T.HasCopy.view (take l.value-index l.values)
