use Rattle.proto_option_laws.proofs.Filled.{filled_are_reached, filled_are_unaffected}
use Rattle.proto_option_laws.proofs.laws.filled_are_reached.Goals as goal

pub returns : goal.returns
returns c = record { reached = filled_are_reached; unaffected = filled_are_unaffected }
