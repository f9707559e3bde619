use Rattle.std.proofs.Common.{List, [], ◌∷◌, ◌++◌, map, take, sym, ◌∙◌, ap, take_all}
use Rattle.proto_base.proofs.Common.{IfOk-weaker, map-append, map_more}
use Rattle.proto_descriptors.specs.Views.{descriptor_tree}
use Rattle.proto_descriptors.specs.declared.message.MessageDescriptor.{MessageDescriptor}
use Rattle.proto_descriptors.proofs.Copied.{nested_copied}
use Rattle.proto_descriptors.proofs.message.+message_copies.Goals as goal

pub copied_message-returns : goal.copied_message-returns
copied_message-returns t c =
    IfOk-weaker c.message_around.result _ _ (λ copy is. is ∙ nested_copied c.args.message.now _ (c.in_ok-nested_type.ensures ∙ ap (λ (ms : List MessageDescriptor). map descriptor_tree ms) c.deref.ensures.value)) c.message_around.ensures

pub copied_messages-loop-message-init : goal.copied_messages-loop-message-init
copied_messages-loop-message-init t c = ap (λ (ms : List MessageDescriptor). map descriptor_tree ms) c.in_ok-copy.ensures.items

pub copied_messages-loop-message-preserved : goal.copied_messages-loop-message-preserved
copied_messages-loop-message-preserved t c =
    ap (λ (ms : List MessageDescriptor). map descriptor_tree ms) c.in_ok-push.ensures.items
    ∙ map-append descriptor_tree c.loop-message.copy.items (c.in_ok-own.own ∷ [])
    ∙ ap (λ z. z ++ descriptor_tree c.in_ok-own.own ∷ []) c.loop-message.invariant
    ∙ ap (λ z. map descriptor_tree (take c.loop-message.message-index c.args.messages.now) ++ z ∷ []) (c.in_ok-own.ensures ∙ ap descriptor_tree c.message-item.is)
    ∙ sym (map_more descriptor_tree c.args.messages.now c.loop-message.message-index c.message-item.result c.loop-message-test.true)

pub copied_messages-returns : goal.copied_messages-returns
copied_messages-returns t c = c.loop-message.invariant ∙ ap (λ (ms : List MessageDescriptor). map descriptor_tree ms) (take_all c.loop-message.message-index c.args.messages.now c.loop-message-test.false)
