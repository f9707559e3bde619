use Rattle.std.proofs.Common.{◌≡◌, map, take}
use Rattle.proto_desc_build.specs.Described.{value_range}
use Rattle.proto_desc_build.proofs.described_enum.reserved_ranges.Given as goal

abbrev pub invariant-loop-range : goal.invariant-loop-range
invariant-loop-range l = l.found.items ≡ map value_range (take l.range-index l.range-items)
