use Rattle.std.proofs.Common.{rules}
use Rattle.proto_names_rules.proofs.kind.Kind.is_type.Goals as goal

pub returns-in_default : goal.returns-in_default
returns-in_default c = search rules
