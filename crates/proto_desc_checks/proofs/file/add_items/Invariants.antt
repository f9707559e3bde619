use Rattle.std.proofs.Common.{◌≡◌, ◌++◌, take, flat_map}
use Rattle.proto_tree.specs.File.{item_tree}
use Rattle.proto_desc_checks.specs.FileFlaws.{flaws_in_blocks}
use Rattle.proto_desc_checks.proofs.file.add_items.Given as goal

abbrev pub invariant-loop-item : goal.invariant-loop-item
invariant-loop-item l = l.found.items ≡ l.initial.found.items ++ flat_map (λ i. flaws_in_blocks l.scene (item_tree i)) (take l.item-index l.items)
