use Rattle.std.proofs.Common.{rules}
use Rattle.proto_ast.proofs.options.core_option.Goals as goal

pub returns-in-Method-text : goal.returns-in-Method-text
returns-in-Method-text c = search rules
