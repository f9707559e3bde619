use Rattle.std.proofs.Common.{◌≡◌, Bool, ◌++◌, List, get_or, map, sym, ap, subst, ◌∙◌, OnOk, append-nil}
use Rattle.proto_tree.specs.declared.tree.EnumItem.{EnumItem}
use Rattle.proto_lint_rules.specs.declared.rule.Rule.TheVariants as rule
use Rattle.proto_names_rules.specs.Forest.{under}
use Rattle.proto_lint_names.proofs.Common.{Found, found_at, unless, reading_of, word_in}
use Rattle.proto_lint_names.proofs.EnumItems.{first_found, first_there, none_found, none_left}
use Rattle.proto_lint_names.proofs.enums.add_first_value.Goals as goal

pub returns-in-Value : goal.returns-in-Value
returns-in-Value c =
    let r = reading_of c.args.reading.now in
    let items = c.args.items.now in
    let here = sym c.in-Value.is ∙ c.item-item.is ∙ ap (λ (x : EnumItem). get_or items c.loop-item.item-index x) c.in-Value.is in
    let first = first_there items c.loop-item.item-index c.in-Value.value c.loop-item-test.true here c.loop-item.invariant.left in
    let found = first_found c.args.rules.now.chosen r rule.EnumFirstValueZero c.args.scope.now _ _ c.in-Value.value (sym c.has.ensures ∙ c.if-not-has.false) first in
    let v = c.in-Value.value in
    let told : Bool → List Found = λ passes. map (found_at r rule.EnumFirstValueZero) (unless passes v.name (under c.args.scope.now (word_in r v.name))) in
    let new = c.add_below_unless.new.self in
    let same = subst (λ (fs : List Found). OnOk c.add_below_unless.result (new ≡ fs ++ told c.is_zero-passes.result)) c.loop-item.invariant.same c.add_below_unless.ensures.added in
    subst (λ (fs : List Found). OnOk c.add_below_unless.result (new ≡ c.args.found.now ++ fs)) found
    (subst (λ (passes : Bool). OnOk c.add_below_unless.result (new ≡ c.args.found.now ++ told passes)) c.is_zero-passes.ensures same)

pub returns : goal.returns
returns c =
    let r = reading_of c.args.reading.now in
    let none = none_found c.args.rules.now.chosen r rule.EnumFirstValueZero c.args.scope.now _ (sym c.has.ensures ∙ c.if-not-has.false) (none_left c.args.items.now c.loop-item.item-index c.loop-item-test.false c.loop-item.invariant.left) in
    c.loop-item.invariant.same ∙ sym (append-nil c.args.found.now) ∙ ap (λ (fs : List Found). c.args.found.now ++ fs) none
