use Rattle.std.proofs.Common.{List, refl, sym, subst}
use Rattle.std.specs.List.{AllZip}
use Rattle.proto_answers.specs.declared.answers.Answer.{Answer as EditAnswer}
use Rattle.proto_answers.specs.declared.answers.FileEdits.{FileEdits}
use Rattle.proto_messages.specs.declared.results.Answer.TheVariants as answer
use Rattle.proto_messages.specs.declared.results.ErrorCode.TheVariants.{RequestFailed}
use Rattle.proto_session_files.specs.Views.{view_at}
use Rattle.proto_session_replies.specs.Placing.{IsRenamingReply}
use Rattle.proto_session_replies.specs.Replies.{IsDocumentEdit}
use Rattle.proto_session_replies.specs.declared.reply.Reply.TheVariants.{Failure, Result}
use Rattle.proto_session_replies.proofs.requesting.renaming_reply.Goals as goal

pub returns-in_ok-text-in-Refused : goal.returns-in_ok-text-in-Refused
returns-in_ok-text-in-Refused c =
    subst (λ (a : EditAnswer). IsRenamingReply (view_at c.args.view.now) c.args.files.now a (Failure RequestFailed c.in_ok-text-in-Refused.text)) (sym c.in-Refused.is)
    (record { said = c.in_ok-text-in-Refused.text; is = refl; holds = c.in_ok-text-in-Refused.ensures })

pub returns-in_ok-edits-in-Edits : goal.returns-in_ok-edits-in-Edits
returns-in_ok-edits-in-Edits c =
    let v = view_at c.args.view.now in
    let sent = c.in_ok-edits-in-Edits.edits in
    let are = subst (λ (es : List FileEdits). AllZip (IsDocumentEdit v) es sent.items) c.as_slice.ensures.value c.in_ok-edits-in-Edits.ensures in
    subst (λ (a : EditAnswer). IsRenamingReply v c.args.files.now a (Result (answer.Edits sent))) (sym c.in-Edits.is) (sent, refl, are)
