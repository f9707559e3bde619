use Rattle.proto_names_rules.proofs.edits.adds_no_cycle.Goals as goal
use Rattle.proto_names_rules.proofs.Cycles.{added_acyclic}

pub returns : goal.returns
returns c = added_acyclic
