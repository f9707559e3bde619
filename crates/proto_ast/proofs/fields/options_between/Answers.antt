use Rattle.std.proofs.Common.{rules}
use Rattle.proto_ast.proofs.fields.options_between.Goals as goal

pub returns : goal.returns
returns c = search rules
