use Rattle.std.proofs.Common.{◌≡◌, ◌++◌, map, take, string_bytes, flat_map}
use Rattle.proto_text.specs.Splicing.{edit_of}
use Rattle.protoref_test_cases.specs.Told.{splice_told}
use Rattle.protoref_test_cases.proofs.told.tell_change.Given as goal

abbrev pub invariant-loop-splice : goal.invariant-loop-splice
invariant-loop-splice l = string_bytes l.out ≡ string_bytes l.initial.out
    ++ flat_map splice_told (map edit_of (take l.splice-index l.splice-items))
