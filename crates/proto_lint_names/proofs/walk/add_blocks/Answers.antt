use Rattle.std.proofs.Common.{ℕ, List, ◌++◌, ◌∙◌, ap, refl}
use Rattle.proto_tree.specs.declared.tree.Item.{Item}
use Rattle.proto_tree.specs.File.{item_tree, tree_of_file, trees}
use Rattle.proto_lint_names.proofs.Common.{Found}
use Rattle.proto_lint_names.specs.RulesCommon.{Walk, walk_finds}
use Rattle.proto_lint_names.proofs.BlockTrees.{finds_of_items}
use Rattle.proto_base.proofs.Turns.{all_listed, listed_turn}
use Rattle.proto_lint_names.proofs.walk.add_blocks.Goals as goal

abbrev told : Walk → List ℕ → List Item → List Found
told walk scope items = walk_finds walk scope (trees item_tree items)

pub loop-item-preserved : goal.loop-item-preserved
loop-item-preserved c =
    let walk = c.args.walk.now in
    let scope = c.args.scope.now in
    let items = c.deref-item-items.result.now in
    listed_turn (told walk scope) (λ x. walk_finds walk scope (item_tree x)) (finds_of_items walk item_tree scope) items c.loop-item.item-index c.item-item.result _
    c.loop-item.found c.add_item.new.found (c.args.found.now ++ told walk scope items)
    c.loop-item-test.true c.item-item.is c.in_ok-add_item.ensures c.loop-item.invariant

pub returns : goal.returns
returns c =
    let found = c.args.found.now in
    let walk = c.args.walk.now in
    let scope = c.args.scope.now in
    let items = c.deref-item-items.result.now in
    all_listed (told walk scope) refl items c.loop-item.item-index c.loop-item.found (found ++ told walk scope items) c.loop-item-test.false c.loop-item.invariant
    ∙ ap (λ (is : List Item). found ++ told walk scope is) c.deref-item-items.ensures.value
    ∙ ap (λ (s : List ℕ). found ++ walk_finds walk s (tree_of_file c.args.file.now)) c.requires
