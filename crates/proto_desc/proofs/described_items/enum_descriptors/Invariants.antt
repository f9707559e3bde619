use Rattle.std.proofs.Common.{◌≡◌, ◌++◌, map, drop}
use Rattle.proto_tree.specs.File.{trees, item_tree}
use Rattle.proto_desc_build.specs.Described.{enums_described}
use Rattle.proto_descriptors.specs.Views.{enum_desc}
use Rattle.proto_desc.proofs.described_items.enum_descriptors.Given as goal

abbrev pub invariant-loop-item : goal.invariant-loop-item
invariant-loop-item l = map enum_desc l.descriptors.items ++ enums_described l.scene (trees item_tree (drop l.item-index l.items)) ≡ enums_described l.scene (trees item_tree l.items)
