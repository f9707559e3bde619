use Rattle.std.proofs.Common.{◌≡◌, ◌++◌, drop, map, flat_map}
use Rattle.proto_tree.specs.File.{enum_item_tree, trees}
use Rattle.proto_ast.specs.Parts.{statements}
use Rattle.proto_lint_rules.specs.declared.rule.Rule.TheVariants as rule
use Rattle.proto_lint_names.proofs.Common.{found_at, reading_of}
use Rattle.proto_lint_names.specs.NameRules.{allowed_alias}
use Rattle.proto_lint_names.proofs.enums.add_each_alias.Given as goal

abbrev pub invariant-loop-item : goal.invariant-loop-item
invariant-loop-item l = l.found ++ map (found_at (reading_of l.reading) rule.EnumNoAllowAlias) (flat_map (allowed_alias (reading_of l.reading) l.full_name) (statements (trees enum_item_tree (drop l.item-index l.items)))) ≡ l.initial.found ++ map (found_at (reading_of l.reading) rule.EnumNoAllowAlias) (flat_map (allowed_alias (reading_of l.reading) l.full_name) (statements (trees enum_item_tree l.items)))
