use Rattle.proto_session.proofs.RequestTurns.{named_is}
use Rattle.proto_session.proofs.answering.running.Goals as goal

pub returns-in_default : goal.returns-in_default
returns-in_default g c =
    let n = c.in_default in
    named_is (g.F.Folders.holds c.args.folders.now) c.args.session.now c.args.asked.now c.named.result n.not-Initialize n.not-Shutdown n.not-Rename n.not-CodeAction n.not-UnknownMethod n.not-InvalidParams c.named.ensures.same c.named.ensures.reply
