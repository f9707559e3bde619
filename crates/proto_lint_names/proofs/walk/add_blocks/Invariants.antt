use Rattle.std.proofs.Common.{◌≡◌, ◌++◌, drop}
use Rattle.proto_tree.specs.File.{item_tree, trees}
use Rattle.proto_lint_names.specs.Walks.{walk_finds}
use Rattle.proto_lint_names.proofs.walk.add_blocks.Given as goal

abbrev pub invariant-loop-item : goal.invariant-loop-item
invariant-loop-item l = l.found ++ walk_finds l.walk l.scope (trees item_tree (drop l.item-index l.item-items)) ≡ l.fn.found ++ walk_finds l.walk l.scope (trees item_tree l.item-items)
