-- The copy of a message: what is its own, and those nested in it.
use Rattle.std.proofs.Common.{◌≡◌, List, map, sym, ap, ◌∙◌}
use Rattle.proto_descriptors.specs.Descriptors.{MessageDesc, Messages}
use Rattle.proto_descriptors.specs.Views.{MessageTree, messages_of, message_desc, message_step, descriptor_tree, messages_desc}
use Rattle.proto_descriptors.specs.declared.message.MessageDescriptor.{MessageDescriptor, out-MessageDescriptor}
use Rattle.proto_descriptors.specs.declared.message.MessageDescriptor.TheOpen.{MessageDescriptor-F}
use Rattle.proto_descriptors.specs.declared.message.MessageDescriptor.TheFolds.{fold-roll-MessageDescriptor, fold_out-MessageDescriptor}
use Rattle.proto_descriptors.specs.declared.message.MessageDescriptor.TheViews.{roll-MessageDescriptor}

-- a message with these nested in it
abbrev pub tree_of : MessageDesc → Messages → MessageTree
tree_of own nested = record { message = own; nested_type = nested }

pub level_of : (m : MessageDescriptor-F MessageDescriptor) → descriptor_tree (roll-MessageDescriptor m) ≡ tree_of (message_desc m) (messages_desc m.nested_type.items)
level_of m = fold-roll-MessageDescriptor MessageTree message_step m

level_out : (m : MessageDescriptor) → descriptor_tree m ≡ tree_of (message_desc (out-MessageDescriptor m)) (messages_desc (out-MessageDescriptor m).nested_type.items)
level_out m = fold_out-MessageDescriptor MessageTree message_step m

-- with copies of those nested in it, it is the message
pub nested_copied : (m : MessageDescriptor) (nested : List MessageDescriptor) → map descriptor_tree nested ≡ map descriptor_tree (out-MessageDescriptor m).nested_type.items
    → tree_of (message_desc (out-MessageDescriptor m)) (messages_desc nested) ≡ descriptor_tree m
nested_copied m nested same = ap (λ (ts : List MessageTree). tree_of (message_desc (out-MessageDescriptor m)) (messages_of ts)) same ∙ sym (level_out m)

-- two messages are the same in each part that is their own
pub same_message : (a b : MessageDesc) → a.name ≡ b.name → a.field ≡ b.field → a.extension ≡ b.extension → a.enum_type ≡ b.enum_type → a.extension_range ≡ b.extension_range → a.oneof_decl ≡ b.oneof_decl
    → a.reserved_range ≡ b.reserved_range → a.reserved_name ≡ b.reserved_name → a.options ≡ b.options → a ≡ b
same_message a b n f d e x o r w s = λ i. record {
  name = n i;
  field = f i;
  extension = d i;
  enum_type = e i;
  extension_range = x i;
  oneof_decl = o i;
  reserved_range = r i;
  reserved_name = w i;
  options = s i;
}
