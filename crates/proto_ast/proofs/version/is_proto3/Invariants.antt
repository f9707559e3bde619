use Rattle.std.proofs.Common.{◌≡◌, drop}
use Rattle.proto_tree.specs.File.{item_tree, trees}
use Rattle.proto_ast.specs.Scenes.{is_proto3, value_in}
use Rattle.proto_ast.proofs.version.is_proto3.Given as goal

abbrev pub invariant-loop-item : goal.invariant-loop-item
invariant-loop-item l = is_proto3 (value_in l.words) (trees item_tree (drop l.item-index l.item-items)) ≡ is_proto3 (value_in l.words) (trees item_tree l.item-items)
