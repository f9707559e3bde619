use Rattle.std.proofs.Common.{◌≡◌, ◌++◌, map, drop}
use Rattle.proto_tree.specs.File.{trees, item_tree}
use Rattle.proto_desc_build.specs.Described.{extensions_described}
use Rattle.proto_descriptors.specs.Views.{field_desc}
use Rattle.proto_desc.proofs.described_items.extension_descriptors.Given as goal

abbrev pub invariant-loop-item : goal.invariant-loop-item
invariant-loop-item l = map field_desc l.descriptors.items ++ extensions_described l.scene (trees item_tree (drop l.item-index l.items)) ≡ extensions_described l.scene (trees item_tree l.items)
