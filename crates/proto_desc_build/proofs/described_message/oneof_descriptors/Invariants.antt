use Rattle.std.proofs.Common.{◌≡◌, ◌++◌, map, drop}
use Rattle.proto_tree.specs.File.{trees, member_tree}
use Rattle.proto_desc_build.specs.Described.{oneof_names}
use Rattle.proto_descriptors.specs.Views.{oneof_desc}
use Rattle.proto_desc_build.proofs.described_message.oneof_descriptors.Given as goal

abbrev pub invariant-loop-member : goal.invariant-loop-member
invariant-loop-member l = map oneof_desc l.descriptors.items ++ oneof_names l.scene (trees member_tree (drop l.member-index l.members)) ≡ oneof_names l.scene (trees member_tree l.members)
