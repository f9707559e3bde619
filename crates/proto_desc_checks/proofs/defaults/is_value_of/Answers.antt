use Rattle.std.proofs.Common.{rules}
use Rattle.proto_desc_checks.proofs.defaults.is_value_of.Goals as goal

pub returns-in-Some-Some : goal.returns-in-Some-Some
returns-in-Some-Some c = search rules
