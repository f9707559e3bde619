use Rattle.proto_edit_statement_laws.proofs.ImportChanges.{drops_are_changes}
use Rattle.proto_edit_statement_laws.proofs.laws.drops_are_changes.Goals as goal

pub returns : goal.returns
returns c = drops_are_changes c.drops_are_read.ensures.read
