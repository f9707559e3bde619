use Rattle.std.proofs.Common.{rules}
use Rattle.proto_ast.proofs.numbers.number_of.Goals as goal

pub returns-in-48-2 : goal.returns-in-48-2
returns-in-48-2 c = search rules
