use Rattle.std.proofs.Common.{rules}
use Rattle.proto_ast.proofs.option_values.is_allowed.Goals as goal

pub returns-in-None : goal.returns-in-None
returns-in-None c = search rules
