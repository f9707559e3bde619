use Rattle.std.proofs.Common.{refl, ◌∙◌, ap}
use Rattle.proto_descriptors.specs.Descriptors.{MessageDesc}
use Rattle.proto_descriptors.specs.Views.{message_desc, messages_desc}
use Rattle.proto_descriptors.specs.declared.message.MessageDescriptor.{out-MessageDescriptor}
use Rattle.proto_descriptors.proofs.Copied.{tree_of, level_of, same_message}
use Rattle.proto_descriptors.proofs.message.message_around.Goals as goal

pub returns : goal.returns
returns c =
    level_of _
    ∙ ap (λ (m : MessageDesc). tree_of m (messages_desc c.args.nested_type.items))
    (same_message _ (message_desc (out-MessageDescriptor c.args.message.now))
    c.in_ok-contents.ensures.name
    c.in_ok-contents.ensures.field
    c.in_ok-contents.ensures.extension
    c.in_ok-contents.ensures.enum_type
    c.in_ok-numbers.ensures.extension_range
    c.in_ok-numbers.ensures.oneof_decl
    c.in_ok-numbers.ensures.reserved_range
    c.in_ok-numbers.ensures.reserved_name
    refl)
