use Rattle.std.proofs.Common.{subst, List}
use Rattle.std.proofs.lemmas.Result.{IfOk-weaker}
use Rattle.proto_base.proofs.Common.{FileOf}
use Rattle.proto_messages.specs.Messages.{document_position_view}
use Rattle.proto_session_files.specs.Views.{view_at}
use Rattle.proto_session_replies.specs.Placing.{IsRenamingReply}
use Rattle.proto_session_replies.proofs.AskedSpots.{spot_of}
use Rattle.proto_session_replies.proofs.NameReplies.{no_name_replied, rename_replied}
use Rattle.proto_session_replies.proofs.requesting.rename_in.Goals as goal

pub returns-in_default : goal.returns-in_default
returns-in_default c =
    let v = view_at c.args.view.now in
    let asked = document_position_view c.args.at.now in
    let w = c.args.workspace.now in
    (w, c.requires, rw c.in_default.is at (spot_of v c.files-files.result.now c.args.workspace.now asked c.as_str.result.now c.files-files.ensures.files c.as_str.ensures.value c.in_ok-spot.field-0 c.in_ok-spot.ensures))

pub returns-in-Some-2 : goal.returns-in-Some-2
returns-in-Some-2 c =
    let v = view_at c.args.view.now in
    let asked = document_position_view c.args.at.now in
    let w = c.args.workspace.now in
    let at = rw c.in-Some.is at (spot_of v c.files-files.result.now c.args.workspace.now asked c.as_str.result.now c.files-files.ensures.files c.as_str.ensures.value c.in_ok-spot.field-0 c.in_ok-spot.ensures) in
    let is = rw c.in-Some-2.is at c.in_ok-answer.ensures in
    let same = c.files-files.ensures.files in
    IfOk-weaker c.renaming_reply.result _ _ (λ r s. rename_replied v w asked c.args.to.now c.in-Some.spot c.in-Some-2.answer c.requires at is r (subst (λ (fs : List FileOf). IsRenamingReply v fs c.in-Some-2.answer r) same s)) c.renaming_reply.ensures

pub returns-in-None : goal.returns-in-None
returns-in-None c =
    let v = view_at c.args.view.now in
    let asked = document_position_view c.args.at.now in
    let w = c.args.workspace.now in
    IfOk-weaker c.failure.result _ _ (λ r f. no_name_replied v w asked c.args.to.now c.in-Some.spot c.requires (rw c.in-Some.is at (spot_of v c.files-files.result.now c.args.workspace.now asked c.as_str.result.now c.files-files.ensures.files c.as_str.ensures.value c.in_ok-spot.field-0 c.in_ok-spot.ensures)) (rw c.in-None.is at c.in_ok-answer.ensures) r f) c.failure.ensures
