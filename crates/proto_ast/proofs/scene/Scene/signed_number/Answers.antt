use Rattle.std.proofs.Common.{rules}
use Rattle.proto_ast.proofs.scene.Scene.signed_number.Goals as goal

pub returns-then-is_some : goal.returns-then-is_some
returns-then-is_some c = search rules
