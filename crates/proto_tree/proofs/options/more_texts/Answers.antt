use Rattle.proto_tree.specs.declared.class.Expected.TheVariants as want
use Rattle.proto_tree.specs.Reading.{token}
use Rattle.proto_tree.proofs.Many.{so_far_start, so_far_goes_on}
use Rattle.proto_tree.proofs.options.more_texts.Goals as goal

pub loop-init : goal.loop-init
loop-init c = rw c.new-items.ensures (so_far_start want.Text (token want.Text) c.args.tokens.now)

pub loop-preserved : goal.loop-preserved
loop-preserved c =
    rw c.in_ok-push.ensures.grown (so_far_goes_on c.first-item.result.0 c.first-item.result.1.now c.loop.invariant c.loop-test.true c.if-not-starts.ensures c.first-item.ensures)
