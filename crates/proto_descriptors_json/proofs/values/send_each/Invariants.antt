use Rattle.std.proofs.Common.{map, take}
use Rattle.proto_descriptors_json.specs.Written.{PutsValues}
use Rattle.proto_descriptors_json.proofs.values.send_each.Given as goal

abbrev pub invariant-loop-value : goal.invariant-loop-value
invariant-loop-value g l =
    PutsValues (map g.T.ToJson.text (take l.value-index l.values)) (g.S.Serializer.written l.fn.out) (g.S.Serializer.written l.out)
