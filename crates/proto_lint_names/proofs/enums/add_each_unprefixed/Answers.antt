use Rattle.std.proofs.Common.{List, ◌++◌, map, flat_map, nat_eq}
use Rattle.std.specs.List.{starts_with}
use Rattle.proto_tree.specs.declared.tree.Value.{Value}
use Rattle.proto_tree.specs.File.{enum_item_tree, trees}
use Rattle.proto_ast.specs.Parts.{values_in}
use Rattle.proto_lint_rules.specs.declared.rule.Rule.TheVariants as rule
use Rattle.proto_lint_names.proofs.Common.{NamedToken, found_at, unless_word, reading_of}
use Rattle.proto_lint_names.proofs.EnumItems.{values_turn}
use Rattle.proto_lint_names.proofs.enums.add_each_unprefixed.Goals as goal

pub loop-item-preserved : goal.loop-item-preserved
loop-item-preserved c =
    let view = found_at (reading_of c.args.reading.now) rule.EnumValuePrefix in
    let part : Value → List NamedToken = λ v. unless_word (reading_of c.args.reading.now) (λ w. starts_with nat_eq w c.args.prefix.now) c.args.scope.now v.name in
    values_turn view part c.args.items.now c.loop-item.item-index c.item-item.result c.loop-item.found c.add_unprefixed.new.found
    (c.args.found.now ++ map view (flat_map part (values_in (trees enum_item_tree c.args.items.now)))) c.loop-item-test.true c.item-item.is c.in_ok-add_unprefixed.ensures c.loop-item.invariant
