use Rattle.std.proofs.Common.{◌≡◌, drop}
use Rattle.proto_tree.specs.File.{item_tree, trees}
use Rattle.proto_edit_statements.specs.ImportPlaces.{ends_in, ends_of}
use Rattle.proto_edit_statements.proofs.import_places.end_before_import.Given as goal

abbrev pub invariant-loop-item : goal.invariant-loop-item
invariant-loop-item l = ends_in l.ends (trees item_tree (drop l.item-index l.item-items)) ≡ ends_of (trees item_tree l.item-items)
