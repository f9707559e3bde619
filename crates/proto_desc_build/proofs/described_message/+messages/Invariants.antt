use Rattle.std.proofs.Common.{◌≡◌, ◌+◌, ◌*◌, drop}
use Rattle.proto_tree.specs.File.{trees, member_tree}
use Rattle.proto_desc_build.specs.Described.{messages_described}
use Rattle.proto_descriptors.specs.Views.{messages_desc}
use Rattle.proto_desc_build.proofs.Levels.{messages_then}
use Rattle.proto_desc_build.proofs.described_message.+messages.Given as goal

abbrev pub invariant-nested_messages-loop-member : goal.invariant-nested_messages-loop-member
invariant-nested_messages-loop-member l = messages_then (messages_desc l.nested.items) (messages_described l.scene l.full (trees member_tree (drop l.member-index l.members))) ≡ messages_described l.scene l.full (trees member_tree l.members)

abbrev pub decreases-message_descriptor : goal.decreases-message_descriptor
decreases-message_descriptor l = 3 * goal.size-message_descriptor l + 2

abbrev pub decreases-nested_messages : goal.decreases-nested_messages
decreases-nested_messages l = 3 * goal.size-nested_messages l + 1

abbrev pub decreases-nested_message : goal.decreases-nested_message
decreases-nested_message l = 3 * goal.size-nested_message l
