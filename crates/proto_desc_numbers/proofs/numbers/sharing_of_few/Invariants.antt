use Rattle.std.proofs.Common.{◌≡◌, take}
use Rattle.proto_desc_numbers.specs.Common.{share, after_earlier}
use Rattle.proto_desc_numbers.proofs.numbers.sharing_of_few.Given as goal

abbrev pub invariant-loop-i : goal.invariant-loop-i
invariant-loop-i l = l.flags.items ≡ after_earlier share (take l.i l.ranges)
