use Rattle.std.proofs.Common.{ap}
use Rattle.proto_session.specs.Changes.{changed}
use Rattle.proto_session.specs.Sessions.{session_of}
use Rattle.proto_session.proofs.answering.unchanged.Goals as goal

pub returns-clause-same : goal.returns-clause-same
returns-clause-same c = ap (changed (session_of c.args.session.now)) c.none.ensures
