use Rattle.proto_session.proofs.ServerTurns.{other_status}
use Rattle.proto_session.proofs.session.Session.status.Goals as goal

pub returns-in_default : goal.returns-in_default
returns-in_default c = other_status c.args.self.now.phase c.in_default.not-Ended
