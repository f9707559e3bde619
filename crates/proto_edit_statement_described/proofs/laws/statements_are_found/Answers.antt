use Rattle.proto_edit_statement_described.proofs.FoundImports.{files_are_there, imports_are_one, imports_are_there}
use Rattle.proto_edit_statement_described.proofs.laws.statements_are_found.Goals as goal

pub returns : goal.returns
returns c = record { files = files_are_there; there = imports_are_there; one = imports_are_one }
