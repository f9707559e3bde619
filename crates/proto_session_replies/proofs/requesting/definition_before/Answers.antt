use Rattle.std.proofs.Common.{◌∷◌, [], List, inr, subst}
use Rattle.std.proofs.lemmas.Result.{IfOk-weaker}
use Rattle.proto_base.proofs.Common.{FileOf}
use Rattle.proto_messages.specs.Messages.{document_position_view}
use Rattle.proto_session_files.specs.Views.{view_at}
use Rattle.proto_session_replies.specs.Replies.{AreLooked, IsSeen}
use Rattle.proto_session_replies.proofs.AskedSpots.{spot_of}
use Rattle.proto_session_replies.proofs.NameReplies.{definition_sent, sent_in}
use Rattle.proto_session_replies.proofs.requesting.definition_before.Goals as goal

pub returns : goal.returns
returns c =
    let v = view_at c.args.view.now in
    let asked = document_position_view c.args.at.now in
    let w = c.args.workspace.now in
    let spot = c.in-Some.spot in
    let l = c.in-Some-2.location in
    let same = c.files-files.ensures.files in
    let at = rw c.in-Some.is at (spot_of v c.files-files.result.now w asked c.as_str.result.now same c.as_str.ensures.value c.in_ok-spot.field-0 c.in_ok-spot.ensures) in
    let is = rw c.in-Some-2.is at c.in_ok-location.ensures in
    let asked_seen = subst (λ (fs : List FileOf). IsSeen v fs spot.file) same (c.is_seen.ensures c.if-not-is_seen.false) in
    let answered_seen = subst (λ (fs : List FileOf). IsSeen v fs l.file) same (c.is_seen-2.ensures c.if-not-is_seen-2.false) in
    let looked : AreLooked v w spot.file l.file = inr (c.requires, c.files-files.ensures.compiled, asked_seen, answered_seen) in
    IfOk-weaker c.all_sent.result _ _ (λ r s. definition_sent v w asked spot l at is looked r (sent_in v c.files-files.result.now w (l ∷ []) r same s)) c.all_sent.ensures
