use Rattle.std.proofs.Common.{◌≡◌, ◌++◌, drop, map}
use Rattle.proto_tree.specs.File.{service_item_tree, trees}
use Rattle.proto_lint_names.specs.Readings.{reading_of}
use Rattle.proto_lint_names.specs.Methods.{method_messages, signatures_in}
use Rattle.proto_lint_names.proofs.shared.add_messages.Given as goal

abbrev pub invariant-loop-item : goal.invariant-loop-item
invariant-loop-item l = map (λ s. s.now) l.all.items ++ method_messages (reading_of l.reading) (signatures_in (trees service_item_tree (drop l.item-index l.item-items))) ≡ map (λ s. s.now) l.fn.all.items ++ method_messages (reading_of l.reading) (signatures_in (trees service_item_tree l.item-items))
