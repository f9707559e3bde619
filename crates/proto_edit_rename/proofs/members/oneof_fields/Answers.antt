use Rattle.std.proofs.Common.{arith, refl}
use Rattle.proto_base.proofs.Common.{all_listed, listed_turn}
use Rattle.proto_tree.specs.File.{oneof_item_tree, trees}
use Rattle.proto_ast.proofs.Common.{fields_in}
use Rattle.proto_edit_rename.proofs.OneofItems.{items_joined}
use Rattle.proto_edit_rename.proofs.members.oneof_fields.Goals as goal

pub loop-item-preserved : goal.loop-item-preserved
loop-item-preserved c =
    listed_turn (λ xs. fields_in (trees oneof_item_tree xs)) (λ x. fields_in (oneof_item_tree x)) items_joined c.args.items.now c.loop-item.item-index c.item-item.result _ _ _ _ c.loop-item-test.true c.item-item.is c.in_ok-push_item.ensures c.loop-item.invariant

pub returns : goal.returns
returns c = all_listed (λ xs. fields_in (trees oneof_item_tree xs)) refl c.args.items.now c.loop-item.item-index _ _ (omega arith) c.loop-item.invariant
