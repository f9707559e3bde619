use Rattle.std.proofs.Common.{◌≡◌, drop}
use Rattle.proto_tree.specs.File.{item_tree, trees}
use Rattle.proto_desc_extensions.specs.Common.{has_extend}
use Rattle.proto_desc_extensions.proofs.extends.has_extend.Given as goal

abbrev pub invariant-loop-item : goal.invariant-loop-item
invariant-loop-item l = has_extend (trees item_tree l.item-items) ≡ has_extend (trees item_tree (drop l.item-index l.item-items))
