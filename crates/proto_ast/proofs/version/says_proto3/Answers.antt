use Rattle.std.proofs.Common.{◌∙◌}
use Rattle.proto_ast.proofs.Strings.{says_proto3}
use Rattle.proto_ast.proofs.version.says_proto3.Goals as goal

pub returns : goal.returns
returns c = c.says.ensures ∙ says_proto3 c.args.words.now c.args.token
