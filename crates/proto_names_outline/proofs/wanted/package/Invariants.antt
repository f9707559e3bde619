use Rattle.std.proofs.Common.{◌≡◌, drop}
use Rattle.proto_tree.specs.File.{item_tree, trees}
use Rattle.proto_names_outline.specs.FromTree.{items_in}
use Rattle.proto_names_rules.specs.Tree.{package_of}
use Rattle.proto_names_outline.proofs.wanted.package.Given as goal

abbrev pub invariant-loop-item : goal.invariant-loop-item
invariant-loop-item l = package_of (items_in (trees item_tree (drop l.item-index l.item-items))) ≡ package_of (items_in (trees item_tree l.item-items))
