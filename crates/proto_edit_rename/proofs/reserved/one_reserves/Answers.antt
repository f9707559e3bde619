use Rattle.std.proofs.Common.{sym, ◌∙◌, arith}
use Rattle.proto_edit_rename.specs.MembersCommon.{block_of, reserves}
use Rattle.proto_base.proofs.Turns.{none_passed, passed_over, stops_here}
use Rattle.proto_edit_rename.proofs.reserved.one_reserves.Goals as goal

pub loop-block-preserved : goal.loop-block-preserved
loop-block-preserved c = c.loop-block.invariant ∙ passed_over (reserves c.args.scene.now c.args.token c.args.word.now) block_of c.args.blocks.now c.loop-block.block-index c.block-item.result _ c.loop-block-test.true c.block-item.is (sym c.in_ok-reserves.ensures ∙ c.if-branch.false)

pub returns-then-branch : goal.returns-then-branch
returns-then-branch c = sym (c.loop-block.invariant ∙ stops_here (reserves c.args.scene.now c.args.token c.args.word.now) block_of c.args.blocks.now c.loop-block.block-index c.block-item.result _ c.loop-block-test.true c.block-item.is (sym c.in_ok-reserves.ensures ∙ c.if-branch.true))

pub returns : goal.returns
returns c = sym (c.loop-block.invariant ∙ none_passed (reserves c.args.scene.now c.args.token c.args.word.now) block_of c.args.blocks.now c.loop-block.block-index (omega arith))
