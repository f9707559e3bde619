use Rattle.proto_desc_numbers.specs.NumberFlaws.{share}
use Rattle.proto_desc_numbers.proofs.FlawLists.{earlier_more}
use Rattle.proto_desc_numbers.proofs.numbers.sharing_of_few.Goals as goal

pub loop-i-preserved : goal.loop-i-preserved
loop-i-preserved c = earlier_more share c.args.ranges.now c.loop-i.i _ c.loop-i.flags.items c.push.new.self.items c.shares_with_any.result c.loop-i-test.true c.loop-i.invariant c.shares_with_any.ensures c.in_ok-push.ensures.items
