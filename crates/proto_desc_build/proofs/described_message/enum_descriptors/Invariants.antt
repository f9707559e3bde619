use Rattle.std.proofs.Common.{◌≡◌, ◌++◌, map, drop}
use Rattle.proto_tree.specs.File.{trees, member_tree}
use Rattle.proto_desc_build.specs.Described.{enums_described}
use Rattle.proto_descriptors.specs.Views.{enum_desc}
use Rattle.proto_desc_build.proofs.described_message.enum_descriptors.Given as goal

abbrev pub invariant-loop-member : goal.invariant-loop-member
invariant-loop-member l = map enum_desc l.descriptors.items ++ enums_described l.scene (trees member_tree (drop l.member-index l.members)) ≡ enums_described l.scene (trees member_tree l.members)
