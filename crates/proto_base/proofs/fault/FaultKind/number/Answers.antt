use Rattle.std.proofs.Common.{rules}
use Rattle.proto_base.proofs.fault.FaultKind.number.Goals as goal

pub returns-in-OpenString : goal.returns-in-OpenString
returns-in-OpenString c = search rules
