use Rattle.std.proofs.Common.{◌≡◌, ◌++◌, map, drop, Some, flat_map}
use Rattle.proto_tree.specs.File.{trees, oneof_item_tree}
use Rattle.proto_ast.specs.Common.{statement_fields, statements, field_of}
use Rattle.proto_ast.proofs.fields.push_oneof.Given as goal

abbrev pub invariant-loop-item : goal.invariant-loop-item
invariant-loop-item l = map field_of l.found.items ++ flat_map (statement_fields (Some l.before)) (statements (trees oneof_item_tree (drop l.item-index l.items))) ≡ map field_of l.fn.found.items ++ flat_map (statement_fields (Some l.before)) (statements (trees oneof_item_tree l.items))
