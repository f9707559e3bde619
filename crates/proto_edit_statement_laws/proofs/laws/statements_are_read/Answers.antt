use Rattle.proto_edit_statement_laws.proofs.Depth.{depth_is_kept}
use Rattle.proto_edit_statement_laws.proofs.Reading.{statements_are_read}
use Rattle.proto_edit_statement_laws.proofs.laws.statements_are_read.Goals as goal

pub returns : goal.returns
returns c = record { read = statements_are_read c.runs_are_replaced.ensures.replaced; depth = depth_is_kept }
