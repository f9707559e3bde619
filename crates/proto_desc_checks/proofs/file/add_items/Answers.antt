use Rattle.std.proofs.Common.{◌++◌, List, flat_map, ◌∙◌, ap, sym, arith, take_all}
use Rattle.proto_tree.specs.declared.tree.Item.{Item}
use Rattle.proto_tree.specs.File.{item_tree}
use Rattle.proto_desc_numbers.specs.declared.flaw.Flaw.{Flaw}
use Rattle.proto_desc_checks.specs.FileFlaws.{flaws_in_blocks}
use Rattle.proto_desc_checks.proofs.Blocks.{flaws_of_trees}
use Rattle.proto_base.proofs.Turns.{added_more}
use Rattle.proto_desc_checks.proofs.file.add_items.Goals as goal

pub loop-item-preserved : goal.loop-item-preserved
loop-item-preserved c =
    added_more (λ i. flaws_in_blocks c.args.scene.now (item_tree i)) c.args.items.now c.loop-item.item-index c.item-item.result c.item-item.result c.args.found.now.items c.loop-item.found.items _
    c.loop-item-test.true c.item-item.is c.in_ok-add_item.ensures c.loop-item.invariant

pub returns : goal.returns
returns c =
    c.loop-item.invariant
    ∙ ap (λ (is : List Item). c.args.found.now.items ++ flat_map (λ i. flaws_in_blocks c.args.scene.now (item_tree i)) is) (take_all c.loop-item.item-index c.args.items.now (omega arith))
    ∙ ap (λ (fs : List Flaw). c.args.found.now.items ++ fs) (sym (flaws_of_trees item_tree c.args.scene.now c.args.items.now))
