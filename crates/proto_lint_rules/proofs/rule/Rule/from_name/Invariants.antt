use Rattle.std.proofs.Common.{ℕ, ◌<◌}
use Rattle.proto_lint_rules.proofs.RuleOrder.{IsOther}
use Rattle.proto_lint_rules.proofs.rule.Rule.from_name.Given as goal

abbrev pub invariant-loop-rule : goal.invariant-loop-rule
invariant-loop-rule l = (k : ℕ) → k < l.rule-index → IsOther l.rule-items l.name k
