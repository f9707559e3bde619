use Rattle.std.proofs.Common.{sym, ◌∙◌}
use Rattle.std.proofs.lemmas.Result.{IfOk-weaker}
use Rattle.proto_messages.specs.Reading.{document_notification_of}
use Rattle.proto_messages.proofs.Chains.{first, fourth, second, third}
use Rattle.proto_messages.proofs.notifications.document_notification.Goals as goal

pub returns-then-eq : goal.returns-then-eq
unfolding document_notification_of
returns-then-eq c = IfOk-weaker c.did_open.result _ _ (λ said is. is ∙ sym (first _ _ (sym c.if-eq.ensures))) c.did_open.ensures

pub returns-then-eq-2 : goal.returns-then-eq-2
unfolding document_notification_of
returns-then-eq-2 c = IfOk-weaker c.did_change.result _ _ (λ said is. is ∙ sym (second _ _ _ (sym c.if-eq.ensures) (sym c.if-eq-2.ensures))) c.did_change.ensures

pub returns-then-eq-3 : goal.returns-then-eq-3
unfolding document_notification_of
returns-then-eq-3 c = IfOk-weaker c.did_save.result _ _ (λ said is. is ∙ sym (third _ _ _ _ (sym c.if-eq.ensures) (sym c.if-eq-2.ensures) (sym c.if-eq-3.ensures))) c.did_save.ensures

pub returns-then-eq-4 : goal.returns-then-eq-4
unfolding document_notification_of
returns-then-eq-4 c = IfOk-weaker c.did_close.result _ _ (λ said is. is ∙ sym (fourth _ _ _ _ _ (sym c.if-eq.ensures) (sym c.if-eq-2.ensures) (sym c.if-eq-3.ensures) (sym c.if-eq-4.ensures))) c.did_close.ensures
