use Rattle.std.proofs.Common.{rules}
use Rattle.proto_base.proofs.fault.FaultKind.name.Goals as goal

pub returns-in-OpenString : goal.returns-in-OpenString
returns-in-OpenString c = search rules
