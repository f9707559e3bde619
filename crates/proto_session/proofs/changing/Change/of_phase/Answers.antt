use Rattle.std.proofs.Common.{ap}
use Rattle.proto_session.specs.declared.changing.Change.{Change}
use Rattle.proto_session.proofs.changing.Change.of_phase.Goals as goal

pub returns : goal.returns
returns c = ap (λ (x : Change). record x { phase = c.args.phase }) c.none-change.ensures
