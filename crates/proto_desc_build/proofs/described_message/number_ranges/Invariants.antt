use Rattle.std.proofs.Common.{◌≡◌, map, take}
use Rattle.proto_desc_build.specs.Described.{number_range}
use Rattle.proto_desc_build.proofs.described_message.number_ranges.Given as goal

abbrev pub invariant-loop-range : goal.invariant-loop-range
invariant-loop-range l = l.found.items ≡ map number_range (take l.range-index l.range-items)
