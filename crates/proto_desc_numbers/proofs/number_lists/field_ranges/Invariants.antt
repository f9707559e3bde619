use Rattle.std.proofs.Common.{◌≡◌, take, map}
use Rattle.proto_desc_numbers.specs.NumberFlaws.{range_of}
use Rattle.proto_desc_numbers.proofs.number_lists.field_ranges.Given as goal

abbrev pub invariant-loop-range : goal.invariant-loop-range
invariant-loop-range l = l.found.items ≡ map (range_of l.scene) (map (λ r. r.now) (take l.range-index l.ranges))
