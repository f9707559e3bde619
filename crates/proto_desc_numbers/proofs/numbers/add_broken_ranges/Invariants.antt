use Rattle.std.proofs.Common.{◌≡◌, ◌++◌, take}
use Rattle.proto_desc_numbers.specs.NumberFlaws.{broken_ranges}
use Rattle.proto_desc_numbers.proofs.numbers.add_broken_ranges.Given as goal

abbrev pub invariant-loop-range : goal.invariant-loop-range
invariant-loop-range l = l.found.items ≡ l.initial.found.items ++ broken_ranges l.least l.most (take l.range-index l.ranges)
