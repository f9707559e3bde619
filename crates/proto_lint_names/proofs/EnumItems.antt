-- The values of an enum, item by item.
use Rattle.std.proofs.Common.{◌≡◌, ℕ, ◌+◌, ◌<◌, ◌≤◌, Bool, true, List, [], ◌∷◌, ◌++◌, length, get_or, drop, map, sym, ap, ◌∙◌, append_assoc, flat_map}
use Rattle.proto_base.proofs.Common.{cond-true, flat_map-append, drop_all, map-append, front_element}
use Rattle.proto_tree.specs.declared.tree.EnumItem.{EnumItem}
use Rattle.proto_tree.specs.declared.tree.EnumItem.TheVariants as enum_item
use Rattle.proto_tree.specs.declared.tree.Value.{Value}
use Rattle.proto_tree.proofs.Common.{enum_item_tree, trees, Tree, joined_trees}
use Rattle.proto_ast.proofs.Common.{statement_values, statements, values_in, statements_joined}
use Rattle.proto_lint_rules.specs.declared.rule.Rule.{Rule}
use Rattle.proto_lint_names.proofs.Common.{found_at, found_by, unless_word, LintFile}
use Rattle.proto_lint_rules.specs.Rules.{is_chosen}
use Rattle.proto_lint_names.specs.NameRules.{first_not_zero, is_zero}

values_joined : (t u : Tree) → values_in (joined_trees t u) ≡ values_in t ++ values_in u
values_joined t u = ap (flat_map statement_values) (statements_joined t u) ∙ flat_map-append statement_values (statements t) (statements u)

values_front : (items : List EnumItem) (i : ℕ) (item : EnumItem) → i < length items → item ≡ get_or items i item
    → values_in (trees enum_item_tree (drop i items)) ≡ values_in (enum_item_tree item) ++ values_in (trees enum_item_tree (drop (i + 1) items))
values_front items i item lt is =
    ap (λ (xs : List EnumItem). values_in (trees enum_item_tree xs)) (front_element items i item item lt is)
    ∙ values_joined (enum_item_tree item) (trees enum_item_tree (drop (i + 1) items))

-- what is found at the values of one item more
pub values_turn : {B C : Type 0} (view : B → C) (part : Value → List B) (items : List EnumItem) (i : ℕ) (item : EnumItem) (found next whole : List C) → i < length items → item ≡ get_or items i item
    → next ≡ found ++ map view (flat_map part (values_in (enum_item_tree item))) → found ++ map view (flat_map part (values_in (trees enum_item_tree (drop i items)))) ≡ whole
    → next ++ map view (flat_map part (values_in (trees enum_item_tree (drop (i + 1) items)))) ≡ whole
values_turn view part items i item found next whole lt is new before =
    let here : List Value = values_in (enum_item_tree item) in
    let rest : List Value = values_in (trees enum_item_tree (drop (i + 1) items)) in
    ap (λ (fs : List _). fs ++ map view (flat_map part rest)) new ∙ append_assoc found (map view (flat_map part here)) (map view (flat_map part rest))
    ∙ ap (λ (fs : List _). found ++ fs) (sym (map-append view (flat_map part here) (flat_map part rest)))
    ∙ ap (λ (fs : List _). found ++ map view fs) (sym (flat_map-append part here rest))
    ∙ ap (λ (vs : List Value). found ++ map view (flat_map part vs)) (sym (values_front items i item lt is)) ∙ before

-- the first value, where none stands before it
pub first_there : (items : List EnumItem) (i : ℕ) (v : Value) → i < length items → enum_item.Value v ≡ get_or items i (enum_item.Value v) → values_in (trees enum_item_tree (drop i items)) ≡ values_in (trees enum_item_tree items)
    → values_in (trees enum_item_tree items) ≡ v ∷ values_in (trees enum_item_tree (drop (i + 1) items))
first_there items i v lt is before = sym before ∙ values_front items i (enum_item.Value v) lt is

pub first_found : (marks : List Bool) (r : LintFile) (rule : Rule) (scope : List ℕ) (vs rest : List Value) (v : Value) → is_chosen marks rule ≡ true → vs ≡ v ∷ rest
    → map (found_at r rule) (unless_word r (λ w. is_zero r v) scope v.name) ≡ found_by marks r rule (first_not_zero r scope vs)
first_found marks r rule scope vs rest v chosen e = sym (ap (λ (us : List Value). found_by marks r rule (first_not_zero r scope us)) e ∙ cond-true _ _ _ chosen)

-- no value stands behind the last item
pub none_left : (items : List EnumItem) (i : ℕ) → length items ≤ i → values_in (trees enum_item_tree (drop i items)) ≡ values_in (trees enum_item_tree items) → values_in (trees enum_item_tree items) ≡ []
none_left items i le before = sym before ∙ ap (λ (xs : List EnumItem). values_in (trees enum_item_tree xs)) (drop_all i items le)

pub none_found : (marks : List Bool) (r : LintFile) (rule : Rule) (scope : List ℕ) (vs : List Value) → is_chosen marks rule ≡ true → vs ≡ [] → [] ≡ found_by marks r rule (first_not_zero r scope vs)
none_found marks r rule scope vs chosen e = sym (ap (λ (us : List Value). found_by marks r rule (first_not_zero r scope us)) e ∙ cond-true _ _ _ chosen)
