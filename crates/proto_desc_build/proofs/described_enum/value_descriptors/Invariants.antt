use Rattle.std.proofs.Common.{◌≡◌, map, take}
use Rattle.proto_desc_build.specs.Described.{value_described}
use Rattle.proto_descriptors.specs.Views.{enum_value_desc}
use Rattle.proto_desc_build.proofs.described_enum.value_descriptors.Given as goal

abbrev pub invariant-loop-value : goal.invariant-loop-value
invariant-loop-value l = map enum_value_desc l.descriptors.items ≡ map (λ v. value_described l.scene v.now) (take l.value-index l.values)
