use Rattle.proto_tree.proofs.MarkLaws.{statements_have_marks, headers_have_marks}
use Rattle.proto_tree.proofs.laws.parts_have_marks.Goals as goal

pub returns-clause-statements : goal.returns-clause-statements
returns-clause-statements c = statements_have_marks

pub returns-clause-headers : goal.returns-clause-headers
returns-clause-headers c = headers_have_marks
