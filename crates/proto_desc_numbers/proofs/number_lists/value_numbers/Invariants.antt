use Rattle.std.proofs.Common.{◌≡◌, take, map}
use Rattle.proto_desc_numbers.specs.NumberFlaws.{number_of_value}
use Rattle.proto_desc_numbers.proofs.number_lists.value_numbers.Given as goal

abbrev pub invariant-loop-value : goal.invariant-loop-value
invariant-loop-value l = l.numbers.items ≡ map (number_of_value l.scene) (map (λ v. v.now) (take l.value-index l.values))
