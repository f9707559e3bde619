use Rattle.std.proofs.Common.{◌≡◌, ◌++◌, map, take}
use Rattle.proto_ast.specs.Views.{field_of}
use Rattle.proto_descriptors.specs.Views.{field_desc}
use Rattle.proto_desc_build.specs.Described.{extension_described}
use Rattle.proto_desc_build.proofs.described_extensions.push_each.Given as goal

abbrev pub invariant-loop-field : goal.invariant-loop-field
invariant-loop-field l = map field_desc l.found.items ≡ map field_desc l.initial.found.items ++ map (λ f. extension_described l.scene l.extendee (field_of f)) (take l.field-index l.fields)
