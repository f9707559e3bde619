use Rattle.proto_edit_statement_laws.proofs.NamesOut.{deletions_have_less, imports_are_more}
use Rattle.proto_edit_statement_laws.proofs.laws.names_come_out.Goals as goal

pub returns : goal.returns
returns c = record { less = deletions_have_less; more = imports_are_more }
