use Rattle.std.proofs.Common.{rules}
use Rattle.proto_names_rules.proofs.kind.Kind.is_package.Goals as goal

pub returns-in-Package : goal.returns-in-Package
returns-in-Package c = search rules
