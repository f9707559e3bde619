use Rattle.proto_tree.proofs.ReplaceLaws.{statements_are_replaced, statements_are_replaced_in}
use Rattle.proto_tree.proofs.laws.statements_are_replaced.Goals as goal

pub returns-clause-replaced : goal.returns-clause-replaced
returns-clause-replaced c = statements_are_replaced

pub returns-clause-replaced_in : goal.returns-clause-replaced_in
returns-clause-replaced_in c = statements_are_replaced_in
