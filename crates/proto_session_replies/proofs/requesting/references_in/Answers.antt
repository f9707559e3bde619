use Rattle.std.proofs.Common.{subst, List}
use Rattle.std.proofs.lemmas.Result.{IfOk-weaker}
use Rattle.proto_messages.specs.Messages.{document_position_view}
use Rattle.proto_session_files.specs.Views.{view_at}
use Rattle.proto_answers.specs.declared.ranges.Location.{Location}
use Rattle.proto_answers.specs.Standing.{NothingStandsAt}
use Rattle.proto_session_replies.specs.Placing.{IsAllSent}
use Rattle.proto_session_replies.proofs.AskedSpots.{null_nowhere, null_there, spot_of}
use Rattle.proto_session_replies.proofs.NameReplies.{references_sent, sent_in}
use Rattle.proto_session_replies.proofs.requesting.references_in.Goals as goal

pub returns-in_default : goal.returns-in_default
returns-in_default c =
    let v = view_at c.args.view.now in
    let asked = document_position_view c.args.at.now in
    let w = c.args.workspace.now in
    null_nowhere v w asked NothingStandsAt c.requires (rw c.in_default.is at (spot_of v c.files-files.result.now c.args.workspace.now asked c.as_str.result.now c.files-files.ensures.files c.as_str.ensures.value c.in_ok-spot.field-0 c.in_ok-spot.ensures))

pub returns-in-Some-2 : goal.returns-in-Some-2
returns-in-Some-2 c =
    let v = view_at c.args.view.now in
    let asked = document_position_view c.args.at.now in
    let w = c.args.workspace.now in
    let at = rw c.in-Some.is at (spot_of v c.files-files.result.now c.args.workspace.now asked c.as_str.result.now c.files-files.ensures.files c.as_str.ensures.value c.in_ok-spot.field-0 c.in_ok-spot.ensures) in
    let are = rw c.in-Some-2.is at c.in_ok-found.ensures in
    IfOk-weaker c.all_sent.result _ _
    (λ r s. references_sent v w asked c.args.with_declaration c.in-Some.spot c.in-Some-2.found c.requires at are r
    (sent_in v c.files-files.result.now w c.in-Some-2.found.items r c.files-files.ensures.files (subst (λ (ls : List Location). IsAllSent v c.files-files.result.now ls r) c.as_slice.ensures.value s)))
    c.all_sent.ensures

pub returns-in-None : goal.returns-in-None
returns-in-None c =
    let v = view_at c.args.view.now in
    let asked = document_position_view c.args.at.now in
    let w = c.args.workspace.now in
    null_there v w asked NothingStandsAt c.in-Some.spot c.requires (rw c.in-Some.is at (spot_of v c.files-files.result.now c.args.workspace.now asked c.as_str.result.now c.files-files.ensures.files c.as_str.ensures.value c.in_ok-spot.field-0 c.in_ok-spot.ensures)) (rw c.in-None.is at c.in_ok-found.ensures)
