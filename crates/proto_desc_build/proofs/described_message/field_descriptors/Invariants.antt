use Rattle.std.proofs.Common.{◌≡◌, map, take}
use Rattle.proto_ast.specs.Views.{field_of}
use Rattle.proto_desc_build.specs.Described.{field_described}
use Rattle.proto_descriptors.specs.Views.{field_desc}
use Rattle.proto_desc_build.proofs.described_message.field_descriptors.Given as goal

abbrev pub invariant-loop-field : goal.invariant-loop-field
invariant-loop-field l = map field_desc l.descriptors.items ≡ map (λ f. field_described l.scene l.full (field_of f)) (take l.field-index l.field-items)
