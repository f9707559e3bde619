use Rattle.std.proofs.Common.{◌≡◌, ◌++◌, map, drop}
use Rattle.proto_tree.specs.File.{trees, item_tree}
use Rattle.proto_desc_build.specs.Described.{services_described}
use Rattle.proto_descriptors.specs.Views.{service_desc}
use Rattle.proto_desc.proofs.described_items.service_descriptors.Given as goal

abbrev pub invariant-loop-item : goal.invariant-loop-item
invariant-loop-item l = map service_desc l.descriptors.items ++ services_described l.scene (trees item_tree (drop l.item-index l.items)) ≡ services_described l.scene (trees item_tree l.items)
