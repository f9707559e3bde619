use Rattle.std.proofs.Common.{◌≡◌, List, [], length, refl, sym, ap, ◌∙◌, true≢false, arith, eqb-true, eq-eqb}
use Rattle.proto_base.proofs.Common.{nil_from_length, on_ok_weaker}
use Rattle.proto_descriptors_json.proofs.Nesting.{level_sent, message_more, messages_sent}
use Rattle.proto_descriptors_json.proofs.Sending.{listed, list_absent, no_values}
use Rattle.proto_descriptors_json.specs.DescriptorText.{message_texts}
use Rattle.proto_descriptors.specs.Views.{messages_desc}
use Rattle.proto_descriptors.specs.declared.message.MessageDescriptor.{MessageDescriptor}
use Rattle.proto_descriptors_json.proofs.message.+messages.Goals as goal

pub put_message-returns : goal.put_message-returns
put_message-returns g t c =
    on_ok_weaker c.end_map.result (λ ends.
    level_sent c.args.message.now c.in_ok-begin_map.ensures c.in_ok-put_before_nested.ensures (listed (ap (λ (ms : List MessageDescriptor). message_texts (messages_desc ms)) c.deref.ensures.value) c.in_ok-put_messages.ensures) c.in_ok-put_after_nested.ensures ends)
    c.end_map.ensures

pub put_messages-loop-message-init : goal.put_messages-loop-message-init
put_messages-loop-message-init g t c = no_values

pub put_messages-loop-message-preserved : goal.put_messages-loop-message-preserved
put_messages-loop-message-preserved g t c =
    message_more c.args.messages.now c.loop-message.message-index c.message-item.result (omega (arith, c.loop-message-test.true)) c.message-item.is
    c.loop-message.invariant c.in_ok-put_message.ensures

pub put_messages-returns : goal.put_messages-returns
put_messages-returns g t c =
    let all = c.args.messages.now in
    let some = λ (none : all ≡ []). true≢false (sym (c.is_empty.ensures ∙ eq-eqb _ 0 (ap length none)) ∙ c.if-is_empty.false) in
    on_ok_weaker c.end_seq.result (λ ends.
    messages_sent all c.loop-message.message-index c.args.key.now _ some (omega (arith, c.loop-message-test.false)) c.in_ok-key.ensures c.in_ok-begin_seq.ensures c.loop-message.invariant ends)
    c.end_seq.ensures

pub put_messages-returns-then-is_empty : goal.put_messages-returns-then-is_empty
put_messages-returns-then-is_empty g t c =
    let none = nil_from_length c.args.messages.now (eqb-true _ 0 (sym c.is_empty.ensures ∙ c.if-is_empty.true)) in
    listed (ap (λ (ms : List MessageDescriptor). message_texts (messages_desc ms)) (sym none)) (list_absent c.args.key.now refl)
