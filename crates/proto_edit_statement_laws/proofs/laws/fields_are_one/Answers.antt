use Rattle.proto_edit_statement_laws.proofs.Fields.{fields_are_one, fields_are_there, fields_may_go}
use Rattle.proto_edit_statement_laws.proofs.laws.fields_are_one.Goals as goal

pub returns : goal.returns
returns c = record { there = fields_are_there; one = fields_are_one; free = fields_may_go }
