use Rattle.proto_names_rules.proofs.spelling.edits_imports.Goals as goal
use Rattle.proto_names_rules.proofs.Shifted.{workspace_shifted}

pub returns : goal.returns
returns g c = workspace_shifted
