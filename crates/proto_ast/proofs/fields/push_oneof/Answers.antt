use Rattle.std.proofs.Common.{Some, arith}
use Rattle.proto_tree.specs.File.{oneof_item_tree}
use Rattle.proto_ast.specs.Parts.{statement_fields}
use Rattle.proto_ast.proofs.Statements.{all_parts, parts_turn}
use Rattle.proto_ast.proofs.fields.push_oneof.Goals as goal

pub loop-item-preserved : goal.loop-item-preserved
loop-item-preserved c = parts_turn (statement_fields (Some c.args.before)) oneof_item_tree c.args.items.now c.loop-item.item-index c.item-item.result _ _ _ c.loop-item-test.true c.item-item.is c.in_ok-push_oneof_field.ensures c.loop-item.invariant

pub returns : goal.returns
returns c = all_parts (statement_fields (Some c.args.before)) oneof_item_tree c.args.items.now c.loop-item.item-index _ _ (omega arith) c.loop-item.invariant
