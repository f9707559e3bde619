use Rattle.std.proofs.Common.{rules}
use Rattle.proto_ast.proofs.scene.Scene.meaning.Goals as goal

pub returns : goal.returns
returns c = search rules
