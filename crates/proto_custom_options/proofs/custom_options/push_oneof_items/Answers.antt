use Rattle.std.proofs.Common.{codes, arith}
use Rattle.proto_tree.specs.File.{oneof_item_tree}
use Rattle.proto_custom_options.proofs.CustomLists.{all_customs, customs_turn}
use Rattle.proto_custom_options.proofs.custom_options.push_oneof_items.Goals as goal

pub loop-item-preserved : goal.loop-item-preserved
loop-item-preserved c = customs_turn (codes "OneofOptions") oneof_item_tree c.args.items.now c.loop-item.item-index c.item-item.result _ _ _ c.loop-item-test.true c.item-item.is c.in_ok-push_oneof_item.ensures c.loop-item.invariant

pub returns : goal.returns
returns c = all_customs (codes "OneofOptions") oneof_item_tree c.args.items.now c.loop-item.item-index _ _ (omega arith) c.loop-item.invariant
