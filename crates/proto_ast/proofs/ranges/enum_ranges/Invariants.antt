use Rattle.std.proofs.Common.{◌≡◌, ◌++◌, map, drop, flat_map}
use Rattle.proto_tree.specs.File.{trees, enum_item_tree}
use Rattle.proto_ast.specs.Parts.{enum_ranges, statements}
use Rattle.proto_ast.proofs.ranges.enum_ranges.Given as goal

abbrev pub invariant-loop-item : goal.invariant-loop-item
invariant-loop-item l = map (λ r. r.now) l.found.items ++ flat_map enum_ranges (statements (trees enum_item_tree (drop l.item-index l.items))) ≡ flat_map enum_ranges (statements (trees enum_item_tree l.items))
