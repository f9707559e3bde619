use Rattle.std.proofs.Common.{Bool, List, ap, ◌∙◌}
use Rattle.std.proofs.lemmas.Result.{on_ok_weaker}
use Rattle.proto_tree.specs.declared.tree.EnumItem.{EnumItem}
use Rattle.proto_tree.specs.File.{enum_item_tree, trees}
use Rattle.proto_case.specs.Cases.{is_pascal}
use Rattle.proto_lint_rules.specs.declared.rule.Rule.TheVariants as rule
use Rattle.proto_names_rules.specs.Forest.{under}
use Rattle.proto_lint_names.proofs.Common.{Found, found_by, unless, reading_of, word_in}
use Rattle.proto_lint_names.specs.NameRules.{enum_first_value_zero, enum_no_allow_alias, enum_value_prefix, enum_value_upper_snake_case, enum_zero_value_suffix}
use Rattle.proto_lint_names.proofs.Steps.{by_equal, six}
use Rattle.proto_lint_names.proofs.enums.add_enum.Goals as goal

pub returns : goal.returns
returns c =
    let chosen = c.args.walk.now.rules.now.chosen in
    let r = reading_of c.args.walk.now.reading.now in
    let scope = c.args.scope.now in
    let name = c.args.names.now.name in
    let items = c.as_slice-items.result.now in
    let members = c.args.names.now.members.items in
    let same = c.as_slice-items.ensures.value in
    let first : List EnumItem → List Found = λ is. found_by chosen r rule.EnumFirstValueZero (enum_first_value_zero r scope (trees enum_item_tree is)) in
    let aliases = found_by chosen r rule.EnumNoAllowAlias (enum_no_allow_alias r scope name (trees enum_item_tree members)) in
    let named : Bool → List Found = λ passes. found_by chosen r rule.EnumPascalCase (unless passes name (under scope (word_in r name))) in
    let prefixes = found_by chosen r rule.EnumValuePrefix (enum_value_prefix r scope name (trees enum_item_tree members)) in
    let values : List EnumItem → List Found = λ is. found_by chosen r rule.EnumValueUpperSnakeCase (enum_value_upper_snake_case r scope (trees enum_item_tree is)) in
    let suffixes : List EnumItem → List Found = λ is. found_by chosen r rule.EnumZeroValueSuffix (enum_zero_value_suffix r scope (trees enum_item_tree is)) in
    let f0 = c.args.found.now in
    let f1 = c.add_first_value.new.found in
    let f2 = c.add_aliases.new.found in
    let f3 = c.add_name.new.found in
    let f4 = c.add_prefixes.new.found in
    let f5 = c.add_value_names.new.found in
    let f6 = c.add_zero_suffixes.new.found in
    let pascal = c.is_pascal-passes.ensures ∙ ap is_pascal c.text.ensures in
    six c.add_zero_suffixes.result f0 f1 f2 f3 f4 f5 f6 (first members) aliases (named (is_pascal (word_in r name))) prefixes (values members) (suffixes members)
    (by_equal first items members f0 f1 same c.in_ok-add_first_value.ensures)
    c.in_ok-add_aliases.ensures
    (by_equal named c.is_pascal-passes.result (is_pascal (word_in r name)) f2 f3 pascal c.in_ok-add_name.ensures)
    c.in_ok-add_prefixes.ensures
    (by_equal values items members f4 f5 same c.in_ok-add_value_names.ensures)
    (on_ok_weaker c.add_zero_suffixes.result (by_equal suffixes items members f5 f6 same) c.add_zero_suffixes.ensures)
