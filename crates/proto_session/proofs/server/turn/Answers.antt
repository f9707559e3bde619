use Rattle.std.proofs.Common.{Some, option_map, subst, sym}
use Rattle.proto_messages.specs.Messages.{message_view}
use Rattle.proto_serving.specs.Serving.{texts}
use Rattle.proto_session.specs.Changes.{changed, told_after}
use Rattle.proto_session.specs.Sessions.{session_of}
use Rattle.proto_session.specs.Steps.{IsTurnOf}
use Rattle.proto_session.specs.declared.changing.Change.{Change}
use Rattle.proto_session.proofs.ServerTurns.{turn_told, turn_untold}
use Rattle.proto_session.proofs.server.turn.Goals as goal

pub returns-then-not-is_time-clause-turn : goal.returns-then-not-is_time-clause-turn
returns-then-not-is_time-clause-turn g c =
    let holds = g.F.Folders.holds c.args.folders.now in
    let s = session_of c.args.session.now in
    let m = option_map message_view c.args.message.0.now in
    let made = c.in_ok-outcome.outcome in
    turn_untold holds s (changed s made.change) m c.args.message.1 c.is_time.result (texts made.replies.items) c.in_ok-outcome.ensures.taken (c.is_time.ensures s) c.if-not-is_time.true

pub returns-in-Ok-clause-turn : goal.returns-in-Ok-clause-turn
returns-in-Ok-clause-turn g c =
    let holds = g.F.Folders.holds c.args.folders.now in
    let s = session_of c.args.session.now in
    let m = option_map message_view c.args.message.0.now in
    let made = c.in_ok-outcome.outcome in
    let replies = texts c.tell.new.outcome.replies.items in
    let told = turn_told holds s (changed s made.change) m c.args.message.1 c.is_time.result (texts made.replies.items) replies c.in-Ok.told c.in_ok-outcome.ensures.taken (c.is_time.ensures s) c.if-not-is_time.false c.in-Ok.ensures.told c.in-Ok.ensures.news in
    subst (λ (x : Change). IsTurnOf holds s m c.args.message.1 replies (told_after (changed s x) (Some c.in-Ok.told))) (sym c.in-Ok.ensures.change) told
