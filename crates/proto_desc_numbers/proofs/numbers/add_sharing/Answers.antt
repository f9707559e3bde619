use Rattle.std.proofs.Common.{[], length, ap, arith, ◌∙◌}
use Rattle.proto_desc_numbers.specs.NumberFlaws.{share}
use Rattle.proto_desc_numbers.proofs.FlawLists.{repeats_length, sharing_turn}
use Rattle.proto_desc_numbers.proofs.numbers.add_sharing.Goals as goal

pub loop-i-preserved : goal.loop-i-preserved
loop-i-preserved c = λ rs is. sharing_turn share rs c.args.ranges.now c.loop-i.i _ _ c.args.known.now c.args.flags.now.items c.loop-i.flags.items c.push.new.self.items c.shares_again.result c.loop-i-test.true c.requires (c.loop-i.invariant rs is) (c.shares_again.ensures rs is) c.in_ok-push.ensures.items

pub bounds-known-i : goal.bounds-known-i
bounds-known-i c = let same = ap length c.requires ∙ repeats_length share [] c.args.ranges.now in omega (arith, same)
