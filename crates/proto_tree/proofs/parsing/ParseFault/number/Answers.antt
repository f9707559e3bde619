use Rattle.std.proofs.Common.{rules}
use Rattle.proto_tree.proofs.parsing.ParseFault.number.Goals as goal

pub returns-in-TooDeep : goal.returns-in-TooDeep
returns-in-TooDeep c = search rules
