use Rattle.std.proofs.Common.{◌≡◌, ◌++◌, map, drop}
use Rattle.proto_tree.specs.File.{item_tree, trees}
use Rattle.proto_lint_names.specs.Readings.{reading_of}
use Rattle.proto_lint_names.specs.Walks.{outer_messages}
use Rattle.proto_lint_names.proofs.method_types.add_file_messages.Given as goal

abbrev pub invariant-loop-item : goal.invariant-loop-item
invariant-loop-item l = map (λ s. s.now) l.all.items ++ outer_messages (reading_of l.reading) (trees item_tree (drop l.item-index l.item-items)) ≡ map (λ s. s.now) l.fn.all.items ++ outer_messages (reading_of l.reading) (trees item_tree l.item-items)
