use Rattle.std.proofs.Common.{rules}
use Rattle.proto_lint_names.proofs.methods.has_shared.Goals as goal

pub returns-then-is_shared : goal.returns-then-is_shared
returns-then-is_shared c = search rules

pub returns-else-is_shared : goal.returns-else-is_shared
returns-else-is_shared c = search rules
