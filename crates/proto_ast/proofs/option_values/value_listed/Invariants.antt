use Rattle.std.proofs.Common.{◌≡◌, drop, flat_map, map}
use Rattle.proto_ast.specs.Common.{separated, setting_options, text}
use Rattle.proto_ast.specs.Options.{value_named}
use Rattle.proto_ast.proofs.option_values.value_listed.Given as goal

abbrev pub invariant-loop-behind : goal.invariant-loop-behind
invariant-loop-behind l = value_named (text l.scene) l.name (flat_map setting_options (separated l.list)) ≡ value_named (text l.scene) l.name (flat_map setting_options (map (λ b. b.item) (drop l.behind-index l.behind-items)))
