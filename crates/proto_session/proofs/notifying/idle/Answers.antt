use Rattle.std.proofs.Common.{ap, ◌∙◌}
use Rattle.proto_serving.specs.Serving.{texts}
use Rattle.proto_session.specs.Changes.{changed}
use Rattle.proto_session.specs.Sessions.{session_of}
use Rattle.proto_session.proofs.ChangedSessions.{idle_passed}
use Rattle.proto_session.proofs.notifying.idle.Goals as goal

pub returns-in_default : goal.returns-in_default
returns-in_default c =
    let s = session_of c.args.session.now in
    idle_passed c.args.end s c.args.said.now (changed s c.quiet-in_default.result.change) (texts c.quiet-in_default.result.replies.items) c.in_default.not-Exit
    (ap (changed s) (c.quiet-in_default.ensures.change ∙ c.none.ensures), ap texts c.quiet-in_default.ensures.quiet)
