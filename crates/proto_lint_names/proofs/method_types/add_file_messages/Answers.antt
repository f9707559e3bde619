use Rattle.std.proofs.Common.{ℕ, List, ◌++◌, map, ◌∙◌, ap, refl}
use Rattle.proto_tree.specs.declared.tree.Item.{Item}
use Rattle.proto_tree.specs.File.{item_tree, trees}
use Rattle.proto_lint_names.specs.Readings.{LintFile, reading_of}
use Rattle.proto_lint_names.specs.Walks.{outer_messages}
use Rattle.proto_lint_names.proofs.OuterMessages.{outer_of_items}
use Rattle.proto_base.proofs.Turns.{all_listed, listed_turn}
use Rattle.proto_lint_names.proofs.method_types.add_file_messages.Goals as goal

abbrev told : LintFile → List Item → List (List ℕ)
told r items = outer_messages r (trees item_tree items)

pub loop-item-preserved : goal.loop-item-preserved
loop-item-preserved c =
    let r = reading_of c.args.reading.now in
    listed_turn (told r) (λ x. outer_messages r (item_tree x)) (outer_of_items r item_tree) c.deref-item-items.result.now c.loop-item.item-index c.item-item.result _
    _ _ _ c.loop-item-test.true c.item-item.is c.in_ok-add_item_messages.ensures c.loop-item.invariant

pub returns : goal.returns
returns c =
    let r = reading_of c.args.reading.now in
    all_listed (told r) refl c.deref-item-items.result.now c.loop-item.item-index _ _ c.loop-item-test.false c.loop-item.invariant
    ∙ ap (λ (items : List Item). map (λ s. s.now) c.args.all.now.items ++ told r items) c.deref-item-items.ensures.value
