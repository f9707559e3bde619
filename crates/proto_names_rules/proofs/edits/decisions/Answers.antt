use Rattle.proto_names_rules.proofs.edits.decisions.Goals as goal
use Rattle.proto_names_rules.proofs.Decided.{captured_is, collides_is, collision_is_fault}

pub returns : goal.returns
returns c = record { captured = captured_is; collision = collides_is; fault = collision_is_fault }
