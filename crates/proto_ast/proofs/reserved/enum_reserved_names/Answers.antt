use Rattle.std.proofs.Common.{arith}
use Rattle.proto_ast.specs.Parts.{reserved_names}
use Rattle.proto_tree.specs.File.{enum_item_tree}
use Rattle.proto_ast.proofs.Statements.{all_parts, parts_turn}
use Rattle.proto_ast.proofs.reserved.enum_reserved_names.Goals as goal

pub loop-item-preserved : goal.loop-item-preserved
loop-item-preserved c = parts_turn reserved_names enum_item_tree c.args.items.now c.loop-item.item-index c.item-item.result _ _ _ c.loop-item-test.true c.item-item.is c.in_ok-push_enum_reserved_names.ensures c.loop-item.invariant

pub returns : goal.returns
returns c = all_parts reserved_names enum_item_tree c.args.items.now c.loop-item.item-index _ _ (omega arith) c.loop-item.invariant
