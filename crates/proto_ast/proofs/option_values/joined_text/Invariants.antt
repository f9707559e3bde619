use Rattle.std.proofs.Common.{◌≡◌, ◌++◌, ◌∷◌, drop, flat_map, string_bytes}
use Rattle.proto_ast.specs.Scenes.{value}
use Rattle.proto_ast.proofs.option_values.joined_text.Given as goal

abbrev pub invariant-loop-token : goal.invariant-loop-token
invariant-loop-token l = string_bytes l.text ++ flat_map (value l.scene) (drop l.token-index l.token-items) ≡ flat_map (value l.scene) (l.joined.first ∷ l.joined.rest)
