use Rattle.std.proofs.Common.{ap}
use Rattle.proto_session.specs.Changes.{changed}
use Rattle.proto_session.specs.Sessions.{session_of}
use Rattle.proto_session.proofs.answering.failed.Goals as goal

pub returns : goal.returns
returns c = (ap (changed (session_of c.args.session.now)) c.none.ensures, c.in_ok-failure.ensures)
