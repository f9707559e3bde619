use Rattle.std.proofs.Common.{ap, ◌∙◌, arith, codes}
use Rattle.proto_tree.specs.File.{item_tree, trees}
use Rattle.proto_custom_options.specs.CustomOptions.{customs_in}
use Rattle.proto_custom_options.proofs.CustomLists.{all_customs, customs_turn}
use Rattle.proto_custom_options.proofs.custom_options.customs.Goals as goal

pub loop-item-preserved : goal.loop-item-preserved
loop-item-preserved c = customs_turn (codes "FileOptions") item_tree c.deref-item-items.result.now c.loop-item.item-index c.item-item.result _ _ _ c.loop-item-test.true c.item-item.is c.in_ok-push_item.ensures c.loop-item.invariant

pub returns : goal.returns
returns c =
    all_customs (codes "FileOptions") item_tree c.deref-item-items.result.now c.loop-item.item-index _ _ (omega arith) c.loop-item.invariant
    ∙ ap (λ items. customs_in (trees item_tree items)) c.deref-item-items.ensures.value
