use Rattle.proto_messages.specs.Messages.{id_view, request_view}
use Rattle.proto_session.proofs.RequestTurns.{replied_is}
use Rattle.proto_session.proofs.answering.replied.Goals as goal

pub returns : goal.returns
returns g c =
    let holds = g.F.Folders.holds c.args.folders.now in
    replied_is holds c.args.session.now (id_view c.args.id.now) (request_view c.args.asked.now) c.in_ok-answered.answered c.with_id.result c.in_ok-answered.ensures c.with_id.ensures.change c.with_id.ensures.reply
