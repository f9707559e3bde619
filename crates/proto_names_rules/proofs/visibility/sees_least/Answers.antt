use Rattle.proto_names_rules.proofs.visibility.sees_least.Goals as goal
use Rattle.proto_names_rules.proofs.Seeing.{sees_is}

pub returns : goal.returns
returns c = sees_is
