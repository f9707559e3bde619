use Rattle.std.proofs.Common.{refl, ap, ◌∙◌, arith}
use Rattle.proto_tree.specs.File.{item_tree, trees}
use Rattle.proto_ast.proofs.ItemBlocks.{wanted_turn}
use Rattle.proto_resolved.specs.Blocks.{holders_in, may_hold}
use Rattle.proto_base.proofs.Turns.{all_listed}
use Rattle.proto_resolved.proofs.blocks.blocks_of.Goals as goal

pub loop-item-preserved : goal.loop-item-preserved
loop-item-preserved c = wanted_turn may_hold item_tree c.deref-item-items.result.now c.loop-item.item-index c.item-item.result _ _ _ c.loop-item-test.true c.item-item.is c.in_ok-push_item.ensures c.loop-item.invariant

pub returns : goal.returns
returns c =
    all_listed (λ items. holders_in (trees item_tree items)) refl c.deref-item-items.result.now c.loop-item.item-index _ _ (omega arith) c.loop-item.invariant
    ∙ ap (λ items. holders_in (trees item_tree items)) c.deref-item-items.ensures.value
