use Rattle.std.proofs.Common.{rules}
use Rattle.proto_text.proofs.fault.LexFault.number.Goals as goal

pub returns-in-BadEscape : goal.returns-in-BadEscape
returns-in-BadEscape c = search rules
