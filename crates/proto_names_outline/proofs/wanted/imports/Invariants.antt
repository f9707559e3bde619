use Rattle.std.proofs.Common.{◌≡◌, ◌++◌, map, drop}
use Rattle.proto_tree.specs.File.{item_tree, trees}
use Rattle.proto_names_outline.specs.Common.{imports_in, wanted_of}
use Rattle.proto_names_outline.proofs.wanted.imports.Given as goal

abbrev pub invariant-loop-item : goal.invariant-loop-item
invariant-loop-item l = map wanted_of l.found.items ++ imports_in (trees item_tree (drop l.item-index l.item-items)) ≡ imports_in (trees item_tree l.item-items)
