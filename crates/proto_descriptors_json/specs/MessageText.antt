-- The text of a message in Rust's form, by its own level and those nested in it.
use Rattle.std.specs.Prelude.{List, [], take, drop}
use Rattle.proto_base.specs.Texts.{Text}
use Rattle.proto_descriptors.specs.declared.message.MessageDescriptor.{MessageDescriptor, out-MessageDescriptor}
use Rattle.proto_descriptors_json.specs.DescriptorText.{message_slots, message_text, message_texts}
use Rattle.proto_descriptors_json.specs.JsonText.{Slot}
use Rattle.proto_descriptors.specs.Views.{MessageTree, message_desc}

-- the object of a message, with the texts of those nested in it
abbrev pub tree_text : MessageTree → Text
tree_text t = message_text t.message (message_texts t.nested_type)

-- the object of a message in Rust's form, with the texts of those nested in it
abbrev pub level_text : MessageDescriptor → List Text → Text
level_text m nested = message_text (message_desc (out-MessageDescriptor m)) nested

-- the members of a message in Rust's form that stand before those nested in it
abbrev pub before_nested : MessageDescriptor → List Slot
before_nested m = take 5 (message_slots (message_desc (out-MessageDescriptor m)) [])

-- the members of a message in Rust's form that stand behind those nested in it
abbrev pub after_nested : MessageDescriptor → List Slot
after_nested m = drop 6 (message_slots (message_desc (out-MessageDescriptor m)) [])
