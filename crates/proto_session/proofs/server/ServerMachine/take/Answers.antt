use Rattle.std.proofs.Common.{option_map, ap, subst, sym}
use Rattle.proto_base.proofs.Common.{err_from_is_err_and}
use Rattle.proto_messages.specs.Messages.{message_view}
use Rattle.proto_serving.specs.Serving.{texts}
use Rattle.proto_session.specs.Sessions.{SessionOf, session_of}
use Rattle.proto_session.specs.Steps.{IsRefused, IsTurnOf}
use Rattle.proto_session.specs.declared.server.Server.{Server}
use Rattle.proto_session.proofs.ServerTurns.{refused_is}
use Rattle.proto_session.proofs.server.ServerMachine.take.Goals as goal

pub returns-clause-step : goal.returns-clause-step
returns-clause-step g c =
    let holds = g.F.Folders.holds in
    let m = c.in_ok-message.message in
    let replies = texts c.in_ok-outcome.outcome.replies.items in
    let before = c.self.inside in
    let made = subst (λ (new : SessionOf). IsTurnOf (holds before.0.1.0) (session_of before.0.0) (option_map message_view m) c.args.is_followed replies new) (sym c.put.ensures) c.in_ok-outcome.ensures.turn in (
      ap (λ (s : Server _). s.folders) c.self.view_is,
      (
        m,
        c.in_ok-message.ensures.message,
        subst (λ (s : Server _). IsTurnOf (holds s.folders) (session_of s.session) (option_map message_view m) c.args.is_followed replies (session_of c.put.new.session)) c.self.view_is made,
      ),
    )

pub returns-in_err-outcome-clause-refused : goal.returns-in_err-outcome-clause-refused
returns-in_err-outcome-clause-refused g c =
    let exit = err_from_is_err_and c.from_residual-in_err-outcome.result c.from_residual-in_err-outcome.ensures.1 in
    rw (exit.1, exit.2)
    (λ is.
    let why = c.in_err-outcome.ensures.refused is in
    subst (λ (s : Server _). IsRefused (session_of s.session) c.args.content.now) c.self.view_is
    (refused_is (session_of c.self.inside.0.0) c.args.content.now c.in_ok-message.message why.1 c.in_ok-message.ensures.message why.2 why.0 why.3))
