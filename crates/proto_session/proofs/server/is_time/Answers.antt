use Rattle.proto_session.proofs.ServerTurns.{no_time}
use Rattle.proto_session.proofs.server.is_time.Goals as goal

pub returns-in_default : goal.returns-in_default
returns-in_default c = λ s. no_time c.args.change.now.phase c.args.change.now.waits c.args.is_followed c.in_default.not-Running
