use Rattle.std.proofs.Common.{rules}
use Rattle.proto_text.proofs.fault.TextFault.offset.Goals as goal

pub returns-in-At : goal.returns-in-At
returns-in-At c = search rules
