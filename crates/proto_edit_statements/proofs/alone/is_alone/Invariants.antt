use Rattle.std.proofs.Common.{◌≡◌, drop}
use Rattle.proto_tree.specs.File.{item_tree, trees}
use Rattle.proto_edit_statements.specs.FieldPlaces.{alone_in}
use Rattle.proto_edit_statements.proofs.alone.is_alone.Given as goal

abbrev pub invariant-loop-item : goal.invariant-loop-item
invariant-loop-item l = alone_in l.name (trees item_tree l.item-items) ≡ alone_in l.name (trees item_tree (drop l.item-index l.item-items))
