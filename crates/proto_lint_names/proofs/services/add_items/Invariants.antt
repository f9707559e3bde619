use Rattle.std.proofs.Common.{◌≡◌, ◌++◌, drop, flat_map}
use Rattle.proto_tree.specs.File.{service_item_tree, trees}
use Rattle.proto_lint_names.proofs.Common.{reading_of}
use Rattle.proto_lint_names.specs.Methods.{method_finds, signatures_in}
use Rattle.proto_lint_names.proofs.services.add_items.Given as goal

abbrev pub invariant-loop-item : goal.invariant-loop-item
invariant-loop-item l = l.found ++ flat_map (method_finds l.walk.rules.now.chosen (reading_of l.walk.reading.now) l.walk.messages.now l.service.full.now l.service.token) (signatures_in (trees service_item_tree (drop l.item-index l.items))) ≡ l.initial.found ++ flat_map (method_finds l.walk.rules.now.chosen (reading_of l.walk.reading.now) l.walk.messages.now l.service.full.now l.service.token) (signatures_in (trees service_item_tree l.items))
