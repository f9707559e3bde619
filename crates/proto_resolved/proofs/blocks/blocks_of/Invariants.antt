use Rattle.std.proofs.Common.{◌≡◌, ◌++◌, map, drop}
use Rattle.proto_tree.specs.File.{trees, item_tree}
use Rattle.proto_resolved.specs.Blocks.{block_of, holders_in}
use Rattle.proto_resolved.proofs.blocks.blocks_of.Given as goal

abbrev pub invariant-loop-item : goal.invariant-loop-item
invariant-loop-item l = map block_of l.found.items ++ holders_in (trees item_tree (drop l.item-index l.item-items)) ≡ holders_in (trees item_tree l.item-items)
