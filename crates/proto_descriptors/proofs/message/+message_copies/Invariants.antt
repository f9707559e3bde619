use Rattle.std.proofs.Common.{◌≡◌, map, take}
use Rattle.proto_descriptors.specs.Views.{descriptor_tree}
use Rattle.proto_descriptors.proofs.message.+message_copies.Given as goal

abbrev pub invariant-copied_messages-loop-message : goal.invariant-copied_messages-loop-message
invariant-copied_messages-loop-message l = map descriptor_tree l.copy.items ≡ map descriptor_tree (take l.message-index l.messages)
