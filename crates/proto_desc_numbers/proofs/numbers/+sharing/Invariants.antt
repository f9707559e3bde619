use Rattle.std.proofs.Common.{length}
use Rattle.proto_desc_numbers.proofs.numbers.+sharing.Given as goal

abbrev pub decreases-sharing : goal.decreases-sharing
decreases-sharing l = length l.ranges.now
