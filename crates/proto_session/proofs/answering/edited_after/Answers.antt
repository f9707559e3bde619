use Rattle.std.proofs.Common.{subst}
use Rattle.proto_messages.specs.Messages.{request_view}
use Rattle.proto_session_files.specs.Views.{ViewOf}
use Rattle.proto_session.specs.Answering.{IsEditReply}
use Rattle.proto_session.specs.Changes.{changed}
use Rattle.proto_session.specs.Sessions.{session_of}
use Rattle.proto_session.proofs.SeenSessions.{view_is}
use Rattle.proto_session.proofs.answering.edited_after.Goals as goal

pub returns-clause-reply : goal.returns-clause-reply
returns-clause-reply c =
    let seen = view_is (changed (session_of c.args.session.now) c.args.change) _ c.encoding_after.result c.disk_after.result.now c.in_ok-files.files.items c.as_slice.result.now c.opened_after-opened.result.now
    c.home_after.ensures c.encoding_after.ensures c.disk_after.ensures c.opened_after-opened.ensures c.in_ok-files.ensures c.as_slice.ensures.value in
    subst (λ (v : ViewOf). IsEditReply v (request_view c.args.asked.now) c.in_ok-reply.reply) seen c.in_ok-reply.ensures
