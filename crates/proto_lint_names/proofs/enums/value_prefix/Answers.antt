use Rattle.std.proofs.Common.{rules}
use Rattle.proto_lint_names.proofs.enums.value_prefix.Goals as goal

pub returns : goal.returns
returns c = search rules
