use Rattle.std.proofs.Common.{sym}
use Rattle.proto_lint_rules.proofs.RuleOrder.{identifiers_rise}
use Rattle.proto_lint_rules.proofs.laws.identifiers_rise.Goals as goal

pub returns : goal.returns
returns c = λ r s. sym (identifiers_rise r s)
