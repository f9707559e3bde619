use Rattle.std.proofs.Common.{ap, ◌∙◌}
use Rattle.proto_session.specs.Changes.{told_after}
use Rattle.proto_session.specs.Sessions.{SessionOf}
use Rattle.proto_session.proofs.server.put.Goals as goal

pub returns : goal.returns
returns c = c.put_told.ensures ∙ ap (λ (s : SessionOf). told_after s c.args.told) c.make.ensures
