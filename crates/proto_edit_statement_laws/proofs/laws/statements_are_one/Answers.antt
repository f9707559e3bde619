use Rattle.proto_edit_statement_laws.proofs.FieldsThere.{fields_are_one, fields_are_there}
use Rattle.proto_edit_statement_laws.proofs.laws.statements_are_one.Goals as goal

pub returns : goal.returns
returns c = record { there = fields_are_there; one = fields_are_one c.deletions_are_of_one_tree.ensures.once }
