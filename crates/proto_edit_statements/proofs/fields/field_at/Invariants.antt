use Rattle.std.proofs.Common.{◌≡◌, drop}
use Rattle.proto_tree.specs.File.{item_tree, trees}
use Rattle.proto_edit_statements.specs.FieldPlaces.{field_in}
use Rattle.proto_edit_statements.proofs.fields.field_at.Given as goal

abbrev pub invariant-loop-item : goal.invariant-loop-item
invariant-loop-item l = field_in l.name (trees item_tree l.item-items) ≡ field_in l.name (trees item_tree (drop l.item-index l.item-items))
