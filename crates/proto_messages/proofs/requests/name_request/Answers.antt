use Rattle.std.proofs.Common.{sym, ◌∙◌}
use Rattle.std.proofs.lemmas.Result.{IfOk-weaker}
use Rattle.proto_messages.specs.Reading.{name_request_of}
use Rattle.proto_messages.proofs.Chains.{first, fourth, second, third}
use Rattle.proto_messages.proofs.requests.name_request.Goals as goal

pub returns-then-eq : goal.returns-then-eq
unfolding name_request_of
returns-then-eq c = IfOk-weaker c.definition.result _ _ (λ asked is. is ∙ sym (first _ _ (sym c.if-eq.ensures))) c.definition.ensures

pub returns-then-eq-2 : goal.returns-then-eq-2
unfolding name_request_of
returns-then-eq-2 c = IfOk-weaker c.references.result _ _ (λ asked is. is ∙ sym (second _ _ _ (sym c.if-eq.ensures) (sym c.if-eq-2.ensures))) c.references.ensures

pub returns-then-eq-3 : goal.returns-then-eq-3
unfolding name_request_of
returns-then-eq-3 c = IfOk-weaker c.prepare_rename.result _ _ (λ asked is. is ∙ sym (third _ _ _ _ (sym c.if-eq.ensures) (sym c.if-eq-2.ensures) (sym c.if-eq-3.ensures))) c.prepare_rename.ensures

pub returns-then-eq-4 : goal.returns-then-eq-4
unfolding name_request_of
returns-then-eq-4 c = IfOk-weaker c.rename.result _ _ (λ asked is. is ∙ sym (fourth _ _ _ _ _ (sym c.if-eq.ensures) (sym c.if-eq-2.ensures) (sym c.if-eq-3.ensures) (sym c.if-eq-4.ensures))) c.rename.ensures
