use Rattle.proto_names_outline.proofs.declaring.names_as_text.Goals as goal
use Rattle.proto_names_rules.proofs.Joined.{joined_apart}

pub returns : goal.returns
returns c = joined_apart
