use Rattle.std.proofs.Common.{◌≡◌, ◌++◌, drop, map, flat_map, nat_eq}
use Rattle.std.specs.List.{starts_with}
use Rattle.proto_tree.specs.File.{enum_item_tree, trees}
use Rattle.proto_ast.specs.Parts.{values_in}
use Rattle.proto_lint_rules.specs.declared.rule.Rule.TheVariants as rule
use Rattle.proto_lint_names.proofs.Common.{found_at, unless_word, reading_of}
use Rattle.proto_lint_names.proofs.enums.add_each_unprefixed.Given as goal

abbrev pub invariant-loop-item : goal.invariant-loop-item
invariant-loop-item l = l.found ++ map (found_at (reading_of l.reading) rule.EnumValuePrefix) (flat_map (λ v. unless_word (reading_of l.reading) (λ w. starts_with nat_eq w l.prefix) l.scope v.name) (values_in (trees enum_item_tree (drop l.item-index l.items)))) ≡ l.initial.found ++ map (found_at (reading_of l.reading) rule.EnumValuePrefix) (flat_map (λ v. unless_word (reading_of l.reading) (λ w. starts_with nat_eq w l.prefix) l.scope v.name) (values_in (trees enum_item_tree l.items)))
