use Rattle.std.proofs.Common.{sym, ◌∙◌}
use Rattle.std.proofs.lemmas.Result.{IfOk-weaker}
use Rattle.proto_messages.specs.Reading.{request_of}
use Rattle.proto_messages.proofs.Chains.{fourth, none, third}
use Rattle.proto_messages.proofs.requests.request.Goals as goal

pub returns-then-eq-3 : goal.returns-then-eq-3
unfolding request_of
returns-then-eq-3 c = IfOk-weaker c.document_symbol.result _ _ (λ asked is. is ∙ sym (third _ _ _ _ (sym c.if-eq.ensures) (sym c.if-eq-2.ensures) (sym c.if-eq-3.ensures))) c.document_symbol.ensures

pub returns-then-eq-4 : goal.returns-then-eq-4
unfolding request_of
returns-then-eq-4 c = IfOk-weaker c.code_action.result _ _ (λ asked is. is ∙ sym (fourth _ _ _ _ _ (sym c.if-eq.ensures) (sym c.if-eq-2.ensures) (sym c.if-eq-3.ensures) (sym c.if-eq-4.ensures))) c.code_action.ensures

pub returns : goal.returns
unfolding request_of
returns c = IfOk-weaker c.name_request.result _ _ (λ asked is. is ∙ sym (none _ _ _ _ _ (sym c.if-eq.ensures) (sym c.if-eq-2.ensures) (sym c.if-eq-3.ensures) (sym c.if-eq-4.ensures))) c.name_request.ensures
