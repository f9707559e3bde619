use Rattle.std.proofs.Common.{◌≡◌, ◌++◌, drop, map, flat_map}
use Rattle.proto_tree.specs.File.{enum_item_tree, trees}
use Rattle.proto_ast.specs.Parts.{values_in}
use Rattle.proto_case.specs.Cases.{is_upper_snake}
use Rattle.proto_lint_rules.specs.declared.rule.Rule.TheVariants as rule
use Rattle.proto_lint_names.proofs.Common.{found_at, unless_word, reading_of}
use Rattle.proto_lint_names.proofs.enums.add_value_names.Given as goal

abbrev pub invariant-loop-item : goal.invariant-loop-item
invariant-loop-item l = l.found ++ map (found_at (reading_of l.reading) rule.EnumValueUpperSnakeCase) (flat_map (λ v. unless_word (reading_of l.reading) is_upper_snake l.scope v.name) (values_in (trees enum_item_tree (drop l.item-index l.items)))) ≡ l.initial.found ++ map (found_at (reading_of l.reading) rule.EnumValueUpperSnakeCase) (flat_map (λ v. unless_word (reading_of l.reading) is_upper_snake l.scope v.name) (values_in (trees enum_item_tree l.items)))
