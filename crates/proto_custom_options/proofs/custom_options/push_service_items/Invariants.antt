use Rattle.std.proofs.Common.{◌≡◌, ◌++◌, map, drop, codes}
use Rattle.proto_tree.specs.File.{trees, service_item_tree}
use Rattle.proto_custom_options.specs.CustomOptions.{customs_below}
use Rattle.proto_custom_options.specs.Views.{custom_of}
use Rattle.proto_custom_options.proofs.custom_options.push_service_items.Given as goal

abbrev pub invariant-loop-item : goal.invariant-loop-item
invariant-loop-item l = map custom_of l.found.items ++ customs_below (codes "ServiceOptions") (trees service_item_tree (drop l.item-index l.items)) ≡ map custom_of l.fn.found.items ++ customs_below (codes "ServiceOptions") (trees service_item_tree l.items)
