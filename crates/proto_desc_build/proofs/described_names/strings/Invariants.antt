use Rattle.std.proofs.Common.{◌≡◌, map, take, string_bytes}
use Rattle.proto_ast.specs.Scenes.{value}
use Rattle.proto_desc_build.proofs.described_names.strings.Given as goal

abbrev pub invariant-loop-token : goal.invariant-loop-token
invariant-loop-token l = map string_bytes l.strings.items ≡ map (value l.scene) (take l.token-index l.tokens)
