use Rattle.std.proofs.Common.{arith}
use Rattle.proto_ast.specs.Parts.{enum_ranges}
use Rattle.proto_tree.specs.File.{enum_item_tree}
use Rattle.proto_ast.proofs.Statements.{all_parts, parts_turn}
use Rattle.proto_ast.proofs.ranges.enum_ranges.Goals as goal

pub loop-item-preserved : goal.loop-item-preserved
loop-item-preserved c = parts_turn enum_ranges enum_item_tree c.args.items.now c.loop-item.item-index c.item-item.result _ _ _ c.loop-item-test.true c.item-item.is c.in_ok-push_enum_ranges.ensures c.loop-item.invariant

pub returns : goal.returns
returns c = all_parts enum_ranges enum_item_tree c.args.items.now c.loop-item.item-index _ _ (omega arith) c.loop-item.invariant
