use Rattle.std.proofs.Common.{sym, ◌∙◌, below_more}
use Rattle.proto_lint_rules.proofs.RuleOrder.{IsOther, all, is_found, is_other, none_found}
use Rattle.proto_lint_rules.proofs.rule.Rule.from_name.Goals as goal

pub returns-then-eq : goal.returns-then-eq
returns-then-eq c = is_found _ c.name.result.now c.args.name.now c.name.ensures (sym c.if-eq.true ∙ c.eq.ensures)

pub loop-rule-preserved : goal.loop-rule-preserved
loop-rule-preserved c =
    below_more (IsOther all c.args.name.now) c.loop-rule.rule-index c.loop-rule.invariant
    (is_other all c.name.result.now c.args.name.now c.loop-rule.rule-index _ c.name.ensures (sym c.if-eq.false ∙ c.eq.ensures))

pub returns : goal.returns
returns c = none_found c.args.name.now c.loop-rule.rule-index c.loop-rule-test.false c.loop-rule.invariant
