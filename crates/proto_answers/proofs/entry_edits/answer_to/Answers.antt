use Rattle.std.proofs.Common.{sym, subst}
use Rattle.std.proofs.lemmas.Result.{IfOk-weaker}
use Rattle.proto_edit.specs.Answers.{asked}
use Rattle.proto_answers.specs.Common.{IsAnswerTo}
use Rattle.proto_answers.specs.declared.answers.Answer.{Answer}
use Rattle.proto_answers.proofs.entry_edits.answer_to.Goals as goal

pub returns-in-Ok : goal.returns-in-Ok
returns-in-Ok c = c.answer_of_entry.ensures (asked c.args.edit.now) c.in-Ok.ensures.ok.0 c.in-Ok.ensures.ok.1

pub returns-in-Err : goal.returns-in-Err
returns-in-Err c =
    let w = c.args.workspace.now in
    let e = c.args.encoding in
    let edit = asked c.args.edit.now in
    IfOk-weaker c.refused.result _ _ (λ answer h. subst (λ (a : Answer). IsAnswerTo w e edit a) (sym h.0) (c.in-Err.ensures.err, h.1)) c.refused.ensures
