use Rattle.std.proofs.Common.{ap, subst}
use Rattle.std.specs.Prelude.{IfOk}
use Rattle.proto_serving.specs.Serving.{texts}
use Rattle.proto_session.specs.Changes.{changed}
use Rattle.proto_session.specs.Sessions.{SessionOf, session_of}
use Rattle.proto_session.specs.Steps.{IsReadAfter}
use Rattle.proto_session.proofs.notifying.read_again.Goals as goal

pub returns-clause-taken : goal.returns-clause-taken
returns-clause-taken g c =
    let holds = g.F.Folders.holds c.args.folders.now in
    let s = session_of c.args.session.now in
    subst (λ (old : SessionOf). IfOk c.read_after.result (λ o. IsReadAfter holds old (changed s o.change) (texts o.replies.items))) (ap (changed s) c.none.ensures) c.read_after.ensures.taken
