use Rattle.proto_desc_checks_laws.proofs.laws.blocks_are_declared.Goals as goal
use Rattle.proto_desc_checks_laws.proofs.Declarations.{blocks_are_declared, fields_are_declared, values_are_declared}
use Rattle.proto_desc_checks_laws.proofs.FieldOrder.{field_names_rise}

pub returns-clause-blocks : goal.returns-clause-blocks
returns-clause-blocks c = blocks_are_declared

pub returns-clause-fields : goal.returns-clause-fields
returns-clause-fields c = fields_are_declared

pub returns-clause-values : goal.returns-clause-values
returns-clause-values c = values_are_declared

pub returns-clause-rising : goal.returns-clause-rising
returns-clause-rising c = field_names_rise
