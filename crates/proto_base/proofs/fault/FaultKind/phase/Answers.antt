use Rattle.std.proofs.Common.{rules}
use Rattle.proto_base.proofs.fault.FaultKind.phase.Goals as goal

pub returns-in-Syntax : goal.returns-in-Syntax
returns-in-Syntax c = search rules
