use Rattle.std.proofs.Common.{◌≡◌, ◌++◌, take}
use Rattle.proto_desc_numbers.specs.NumberFlaws.{is_value_number, outside}
use Rattle.proto_desc_numbers.proofs.numbers.add_outside_values.Given as goal

abbrev pub invariant-loop-at : goal.invariant-loop-at
invariant-loop-at l = l.found.items ≡ l.initial.found.items ++ outside is_value_number (take l.at-index l.numbers)
