use Rattle.std.proofs.Common.{◌≡◌, drop, Some}
use Rattle.proto_tree.specs.File.{oneof_item_tree, trees}
use Rattle.proto_edit_statements.specs.FieldPlaces.{field_among}
use Rattle.proto_edit_statements.proofs.fields.place_in_items.Given as goal

abbrev pub invariant-loop-item : goal.invariant-loop-item
invariant-loop-item l = field_among l.name (Some l.close) (trees oneof_item_tree l.items) ≡ field_among l.name (Some l.close) (trees oneof_item_tree (drop l.item-index l.items))
