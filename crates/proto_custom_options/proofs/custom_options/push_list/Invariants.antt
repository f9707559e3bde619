use Rattle.std.proofs.Common.{◌≡◌, ◌++◌, map, flat_map, drop}
use Rattle.proto_custom_options.specs.CustomOptions.{setting_customs}
use Rattle.proto_ast.specs.Parts.{separated}
use Rattle.proto_custom_options.specs.Views.{custom_of}
use Rattle.proto_custom_options.proofs.custom_options.push_list.Given as goal

abbrev pub invariant-loop-behind : goal.invariant-loop-behind
invariant-loop-behind l = map custom_of l.found.items ++ flat_map (setting_customs l.message) (map (λ b. b.item) (drop l.behind-index l.behind-items)) ≡ map custom_of l.fn.found.items ++ flat_map (setting_customs l.message) (separated l.list)
