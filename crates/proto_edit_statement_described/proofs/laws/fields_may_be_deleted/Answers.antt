use Rattle.proto_edit_statement_described.proofs.FieldNamed.{fields_are_one_alone, fields_may_be_deleted}
use Rattle.proto_edit_statement_described.proofs.laws.fields_may_be_deleted.Goals as goal

pub returns : goal.returns
returns c = record { there = fields_may_be_deleted c.statements_are_one.ensures.there; one = fields_are_one_alone c.statements_are_one.ensures.one }
