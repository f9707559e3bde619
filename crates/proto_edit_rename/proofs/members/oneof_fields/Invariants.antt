use Rattle.std.proofs.Common.{◌≡◌, ◌++◌, map, drop}
use Rattle.proto_tree.specs.File.{oneof_item_tree, trees}
use Rattle.proto_ast.proofs.Common.{fields_in, field_of}
use Rattle.proto_edit_rename.proofs.members.oneof_fields.Given as goal

abbrev pub invariant-loop-item : goal.invariant-loop-item
invariant-loop-item l = map field_of l.fields.items ++ fields_in (trees oneof_item_tree (drop l.item-index l.items)) ≡ fields_in (trees oneof_item_tree l.items)
