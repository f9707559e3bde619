use Rattle.std.proofs.Common.{◌≡◌, ℤ, take}
use Rattle.proto_desc_numbers.specs.RangeIndex.{AreRaised, reach, range_reaches}
use Rattle.proto_desc_numbers.proofs.range_index.raised_ranges.Given as goal

abbrev pub invariant-loop-range : goal.invariant-loop-range
invariant-loop-range l = record {
  raised : AreRaised (take l.range-index l.ranges) l.raised.items;
  most : (n : ℤ) → range_reaches n l.before ≡ reach n (take l.range-index l.ranges);
}
