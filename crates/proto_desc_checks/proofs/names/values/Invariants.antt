use Rattle.std.proofs.Common.{◌≡◌, take, map, string_bytes}
use Rattle.proto_ast.specs.Scenes.{value}
use Rattle.proto_desc_checks.proofs.names.values.Given as goal

abbrev pub invariant-loop-token : goal.invariant-loop-token
invariant-loop-token l = map string_bytes l.values.items ≡ map (value l.scene) (take l.token-index l.tokens)
