use Rattle.std.proofs.Common.{◌≡◌, ◌++◌, map, flat_map, drop}
use Rattle.proto_ast.specs.Common.{setting_options, separated, option_of}
use Rattle.proto_ast.proofs.fields.push_settings.Given as goal

abbrev pub invariant-loop-behind : goal.invariant-loop-behind
invariant-loop-behind l = map option_of l.options.items ++ flat_map setting_options (map (λ b. b.item) (drop l.behind-index l.behind-items)) ≡ map option_of l.fn.options.items ++ flat_map setting_options (separated l.list)
