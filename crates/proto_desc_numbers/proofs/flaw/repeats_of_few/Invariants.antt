use Rattle.std.proofs.Common.{◌≡◌, take}
use Rattle.proto_desc_numbers.specs.Flaws.{after_earlier}
use Rattle.proto_desc_numbers.proofs.flaw.repeats_of_few.Given as goal

abbrev pub invariant-loop-i : goal.invariant-loop-i
invariant-loop-i g l = l.flags.items ≡ after_earlier g.K.PartialEq.eq (take l.i l.keys)
