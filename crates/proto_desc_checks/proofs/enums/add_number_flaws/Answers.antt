use Rattle.std.proofs.Common.{◌≡◌, List, [], if◌then◌else◌, ◌++◌, map, flat_map, ap, ◌∙◌, append_assoc}
use Rattle.proto_base.proofs.Common.{on_ok_weaker, then_added}
use Rattle.proto_base.specs.declared.fault.FaultKind.TheVariants as kind
use Rattle.proto_tree.specs.declared.tree.EnumItem.{EnumItem}
use Rattle.proto_tree.specs.File.{enum_item_tree, trees}
use Rattle.proto_ast.proofs.Common.{OptionOf, enum_ranges, options_in, statements, values_in, option_of}
use Rattle.proto_desc_numbers.specs.declared.flaw.Flaw.{Flaw}
use Rattle.proto_desc_numbers.specs.declared.numbers.NumberAt.{NumberAt}
use Rattle.proto_ast.specs.declared.ranges.RangeAt.{RangeAt}
use Rattle.proto_desc_numbers.proofs.Common.{marked, broken_ranges, enum_range_of, is_value_number, least_value, most_value, number_of_value, outside, overlaps, repeated_numbers, reserved_numbers}
use Rattle.proto_desc_checks.specs.FileFlaws.{allows_alias, first_value_flaws}
use Rattle.proto_desc_checks.proofs.enums.add_number_flaws.Goals as goal

-- three lists, and a fourth behind them
fourth_added : (a b c d before found last : List Flaw) → found ≡ before ++ (a ++ (b ++ c)) → last ≡ found ++ d → last ≡ before ++ (a ++ (b ++ (c ++ d)))
fourth_added a b c d before found last first second =
    then_added (a ++ (b ++ c)) d before found last first second
    ∙ ap (λ (fs : List Flaw). before ++ fs) (append_assoc a (b ++ c) d ∙ ap (λ (fs : List Flaw). a ++ fs) (append_assoc b c d))

pub returns : goal.returns
returns c =
    let scene = c.args.scene.now in
    let tree = trees enum_item_tree c.args.parts.now in
    let before = c.args.found.now.items in
    let found = c.add_numbers.new.found.items in
    let all = map (enum_range_of scene) (flat_map enum_ranges (statements tree)) in
    let ranges : c.in_ok-ranges.ranges.items ≡ all = c.in_ok-ranges.ensures ∙ ap (map (enum_range_of scene)) (ap (map (λ r. r.now)) c.deref.ensures.value ∙ c.in_ok-closed.ensures ∙ ap (λ (items : List EnumItem). flat_map enum_ranges (statements (trees enum_item_tree items))) c.items.ensures) in
    let values = map (number_of_value scene) (values_in tree) in
    let numbers : c.in_ok-numbers.numbers.items ≡ values = c.in_ok-numbers.ensures ∙ ap (map (number_of_value scene)) c.values.ensures in
    let aliases = λ (os : List OptionOf) (ns : List NumberAt). if allows_alias scene os then [] else marked kind.AliasNotAllowed (map (λ n. n.token) ns) (repeated_numbers ns) in
    let own = λ (os : List OptionOf) (ns : List NumberAt). before ++ (outside is_value_number ns ++ (first_value_flaws scene ns ++ aliases os ns)) in
    let later = λ (rs : List RangeAt) (ns : List NumberAt). reserved_numbers rs ns ++ (broken_ranges least_value most_value rs ++ overlaps rs) in
    let first = c.in_ok-add_numbers.ensures
    ∙ ap (own (map option_of c.options.result.now)) (c.deref-2.ensures.value ∙ numbers)
    ∙ ap (λ (os : List OptionOf). own os values) c.options.ensures in
    on_ok_weaker c.add_value_ranges.result
    (λ e. fourth_added (outside is_value_number values) (first_value_flaws scene values) (aliases (options_in tree) values) (later all values) before found _ first
    (e ∙ ap (λ (rs : List RangeAt). found ++ later rs c.deref-4.result.now) (c.deref-3.ensures.value ∙ ranges) ∙ ap (λ (ns : List NumberAt). found ++ later all ns) (c.deref-4.ensures.value ∙ numbers)))
    c.add_value_ranges.ensures
