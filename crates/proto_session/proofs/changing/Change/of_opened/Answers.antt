use Rattle.std.proofs.Common.{Some, true, ap}
use Rattle.proto_session.specs.declared.changing.Change.{Change}
use Rattle.proto_session.proofs.changing.Change.of_opened.Goals as goal

pub returns : goal.returns
returns c = ap (λ (x : Change). record x { opened = Some c.args.opened; waits = true }) c.none-change.ensures
