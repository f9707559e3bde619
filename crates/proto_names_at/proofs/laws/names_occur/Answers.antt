use Rattle.proto_names_at.proofs.StandingNames.{names_occur}
use Rattle.proto_names_at.proofs.laws.names_occur.Goals as goal

pub returns : goal.returns
returns c = names_occur
