use Rattle.proto_text.proofs.Segments.{runs_are_replaced, between_places}
use Rattle.proto_text.proofs.Order.{tokens_are_moved}
use Rattle.proto_text.proofs.laws.runs_are_replaced.Goals as goal

pub returns : goal.returns
returns c = record { replaced = runs_are_replaced; between = between_places; moved = tokens_are_moved }
