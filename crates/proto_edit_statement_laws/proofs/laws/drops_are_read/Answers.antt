use Rattle.proto_edit_statement_laws.proofs.ImportLists.{imports_come_in}
use Rattle.proto_edit_statement_laws.proofs.Imports.{drops_are_read}
use Rattle.proto_edit_statement_laws.proofs.laws.drops_are_read.Goals as goal

pub returns : goal.returns
returns c = record { read = drops_are_read c.runs_are_replaced.ensures.replaced; imports = imports_come_in }
