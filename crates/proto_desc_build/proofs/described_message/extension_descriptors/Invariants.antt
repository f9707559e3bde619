use Rattle.std.proofs.Common.{◌≡◌, ◌++◌, map, drop}
use Rattle.proto_tree.specs.File.{trees, member_tree}
use Rattle.proto_desc_build.specs.Described.{extensions_described}
use Rattle.proto_descriptors.specs.Views.{field_desc}
use Rattle.proto_desc_build.proofs.described_message.extension_descriptors.Given as goal

abbrev pub invariant-loop-member : goal.invariant-loop-member
invariant-loop-member l = map field_desc l.descriptors.items ++ extensions_described l.scene (trees member_tree (drop l.member-index l.members)) ≡ extensions_described l.scene (trees member_tree l.members)
