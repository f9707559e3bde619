use Rattle.proto_names_rules.proofs.Scopes.{scopes_are_declared}
use Rattle.proto_names_rules.proofs.laws.scopes_are_declared.Goals as goal

pub returns : goal.returns
returns g c = scopes_are_declared
