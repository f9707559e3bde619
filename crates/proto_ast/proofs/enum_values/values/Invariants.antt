use Rattle.std.proofs.Common.{◌≡◌, ◌++◌, map, drop}
use Rattle.proto_tree.specs.File.{trees, enum_item_tree}
use Rattle.proto_ast.specs.Parts.{values_in}
use Rattle.proto_ast.proofs.enum_values.values.Given as goal

abbrev pub invariant-loop-item : goal.invariant-loop-item
invariant-loop-item l = map (λ r. r.now) l.found.items ++ values_in (trees enum_item_tree (drop l.item-index l.items)) ≡ values_in (trees enum_item_tree l.items)
