use Rattle.std.proofs.Common.{◌≡◌, ◌++◌, take, map, flat_map}
use Rattle.proto_desc_checks.specs.FileFlaws.{value_option_flaws}
use Rattle.proto_desc_checks.proofs.enums.add_each_value.Given as goal

abbrev pub invariant-loop-value : goal.invariant-loop-value
invariant-loop-value l = l.found.items ≡ l.initial.found.items ++ flat_map (value_option_flaws l.scene) (map (λ v. v.now) (take l.value-index l.values))
