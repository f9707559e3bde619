use Rattle.std.proofs.Common.{◌≡◌, ◌++◌, map, drop, codes}
use Rattle.proto_tree.specs.File.{trees, item_tree}
use Rattle.proto_custom_options.specs.CustomOptions.{customs_below}
use Rattle.proto_custom_options.specs.Views.{custom_of}
use Rattle.proto_custom_options.proofs.custom_options.customs.Given as goal

abbrev pub invariant-loop-item : goal.invariant-loop-item
invariant-loop-item l = map custom_of l.found.items ++ customs_below (codes "FileOptions") (trees item_tree (drop l.item-index l.item-items)) ≡ customs_below (codes "FileOptions") (trees item_tree l.item-items)
