use Rattle.std.proofs.Common.{◌≡◌, ◌++◌, map, drop}
use Rattle.proto_tree.specs.File.{trees, service_item_tree}
use Rattle.proto_desc_build.specs.Described.{methods_described}
use Rattle.proto_descriptors.specs.Views.{method_desc}
use Rattle.proto_desc_build.proofs.described_service.method_descriptors.Given as goal

abbrev pub invariant-loop-item : goal.invariant-loop-item
invariant-loop-item l = map method_desc l.descriptors.items ++ methods_described l.scene (trees service_item_tree (drop l.item-index l.items)) ≡ methods_described l.scene (trees service_item_tree l.items)
