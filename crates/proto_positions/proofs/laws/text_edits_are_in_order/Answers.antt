use Rattle.proto_positions.proofs.Orders.{text_edits_are_in_order}
use Rattle.proto_positions.proofs.laws.text_edits_are_in_order.Goals as goal

pub returns : goal.returns
returns c = text_edits_are_in_order
