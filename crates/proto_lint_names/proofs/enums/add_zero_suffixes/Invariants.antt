use Rattle.std.proofs.Common.{◌≡◌, ◌++◌, ◌||◌, drop, map, flat_map, not, nat_eq, codes}
use Rattle.std.specs.List.{ends_with}
use Rattle.proto_tree.specs.File.{enum_item_tree, trees}
use Rattle.proto_ast.specs.Parts.{values_in}
use Rattle.proto_lint_rules.specs.declared.rule.Rule.TheVariants as rule
use Rattle.proto_lint_names.proofs.Common.{found_at, unless_word, reading_of}
use Rattle.proto_lint_names.specs.NameRules.{is_zero}
use Rattle.proto_lint_names.proofs.enums.add_zero_suffixes.Given as goal

abbrev pub invariant-loop-item : goal.invariant-loop-item
invariant-loop-item l = l.found ++ map (found_at (reading_of l.reading) rule.EnumZeroValueSuffix) (flat_map (λ v. unless_word (reading_of l.reading) (λ w. not (is_zero (reading_of l.reading) v) || ends_with nat_eq w (codes "_UNSPECIFIED")) l.scope v.name) (values_in (trees enum_item_tree (drop l.item-index l.items)))) ≡ l.initial.found ++ map (found_at (reading_of l.reading) rule.EnumZeroValueSuffix) (flat_map (λ v. unless_word (reading_of l.reading) (λ w. not (is_zero (reading_of l.reading) v) || ends_with nat_eq w (codes "_UNSPECIFIED")) l.scope v.name) (values_in (trees enum_item_tree l.items)))
