use Rattle.std.proofs.Common.{◌≡◌, ◌++◌, drop}
use Rattle.proto_tree.specs.File.{trees, enum_item_tree}
use Rattle.proto_ast.specs.Parts.{reserved_names_in}
use Rattle.proto_ast.proofs.reserved.enum_reserved_names.Given as goal

abbrev pub invariant-loop-item : goal.invariant-loop-item
invariant-loop-item l = l.found.items ++ reserved_names_in (trees enum_item_tree (drop l.item-index l.items)) ≡ reserved_names_in (trees enum_item_tree l.items)
