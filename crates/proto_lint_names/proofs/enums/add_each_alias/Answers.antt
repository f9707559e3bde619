use Rattle.std.proofs.Common.{List, ◌++◌, map, flat_map, refl}
use Rattle.proto_tree.specs.declared.piece.Statement.{Statement}
use Rattle.proto_tree.specs.declared.tree.EnumItem.{EnumItem}
use Rattle.proto_tree.specs.File.{enum_item_tree, trees}
use Rattle.proto_ast.specs.Parts.{statements}
use Rattle.proto_lint_rules.specs.declared.rule.Rule.TheVariants as rule
use Rattle.proto_lint_names.proofs.Common.{Found, NamedToken, found_at, reading_of}
use Rattle.proto_lint_names.specs.NameRules.{allowed_alias}
use Rattle.proto_base.proofs.Turns.{all_listed, listed_turn}
use Rattle.proto_lint_names.proofs.JoinedTrees.{placed_of_statements}
use Rattle.proto_lint_names.proofs.enums.add_each_alias.Goals as goal

abbrev told : (NamedToken → Found) → (Statement → List NamedToken) → List EnumItem → List Found
told place part items = map place (flat_map part (statements (trees enum_item_tree items)))

pub loop-item-preserved : goal.loop-item-preserved
loop-item-preserved c =
    let place = found_at (reading_of c.args.reading.now) rule.EnumNoAllowAlias in
    let part : Statement → List NamedToken = allowed_alias (reading_of c.args.reading.now) c.args.full_name.now in
    let items = c.args.items.now in
    listed_turn (told place part) (λ x. map place (flat_map part (statements (enum_item_tree x)))) (placed_of_statements enum_item_tree place part) items c.loop-item.item-index c.item-item.result _
    c.loop-item.found c.add_alias.new.found (c.args.found.now ++ told place part items)
    c.loop-item-test.true c.item-item.is c.in_ok-add_alias.ensures c.loop-item.invariant

pub returns : goal.returns
returns c =
    let place = found_at (reading_of c.args.reading.now) rule.EnumNoAllowAlias in
    let part : Statement → List NamedToken = allowed_alias (reading_of c.args.reading.now) c.args.full_name.now in
    let items = c.args.items.now in
    all_listed (told place part) refl items c.loop-item.item-index c.loop-item.found (c.args.found.now ++ told place part items) c.loop-item-test.false c.loop-item.invariant
