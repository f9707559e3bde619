use Rattle.std.proofs.Common.{◌≡◌, drop}
use Rattle.proto_tree.specs.File.{trees, item_tree}
use Rattle.proto_desc_build.proofs.Common.{messages_described, messages_then}
use Rattle.proto_descriptors.specs.Views.{messages_desc}
use Rattle.proto_desc.proofs.described_items.message_descriptors.Given as goal

abbrev pub invariant-loop-item : goal.invariant-loop-item
invariant-loop-item l = messages_then (messages_desc l.descriptors.items) (messages_described l.scene l.around (trees item_tree (drop l.item-index l.items))) ≡ messages_described l.scene l.around (trees item_tree l.items)
