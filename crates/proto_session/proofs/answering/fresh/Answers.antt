use Rattle.std.proofs.lemmas.Result.{IfOk-weaker}
use Rattle.proto_session.specs.Changes.{changed}
use Rattle.proto_session.specs.Sessions.{session_of}
use Rattle.proto_session.proofs.RequestTurns.{fresh_failed}
use Rattle.proto_session.proofs.answering.fresh.Goals as goal

pub returns-in_default : goal.returns-in_default
returns-in_default c =
    let s = session_of c.args.session.now in
    IfOk-weaker c.failed.result _ _ (λ a f. fresh_failed s c.args.asked.now (changed s a.change) a.reply c.in_default.not-Initialize f) c.failed.ensures
