use Rattle.std.proofs.Common.{rules}
use Rattle.proto_lint_rules.proofs.rule_set.RuleSet.has.Goals as goal

pub returns : goal.returns
returns c = search rules
