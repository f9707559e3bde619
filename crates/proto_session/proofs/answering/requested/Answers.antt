use Rattle.proto_messages.specs.Messages.{id_view, request_view}
use Rattle.proto_session.proofs.RequestTurns.{unreplied_is}
use Rattle.proto_session.proofs.answering.requested.Goals as goal

pub returns-in_ok-failed-in-Err : goal.returns-in_ok-failed-in-Err
returns-in_ok-failed-in-Err g c =
    let holds = g.F.Folders.holds c.args.folders.now in
    unreplied_is holds c.args.session.now (id_view c.args.id.now) (request_view c.args.asked.now) c.in_ok-failed-in-Err.failed c.with_id.result c.in_ok-failed-in-Err.ensures c.with_id.ensures.change c.with_id.ensures.reply
