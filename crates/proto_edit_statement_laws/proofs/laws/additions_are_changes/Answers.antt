use Rattle.proto_edit_statement_laws.proofs.ImportChanges.{additions_are_changes}
use Rattle.proto_edit_statement_laws.proofs.laws.additions_are_changes.Goals as goal

pub returns : goal.returns
returns c = additions_are_changes c.additions_are_read.ensures c.segments_are_made.ensures.quoted
