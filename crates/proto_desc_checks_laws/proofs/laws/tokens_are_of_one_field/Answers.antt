use Rattle.proto_desc_checks_laws.proofs.laws.tokens_are_of_one_field.Goals as goal
use Rattle.proto_desc_checks_laws.proofs.OneField.{names_are_of_one_field, options_are_of_one_field}

pub returns-clause-names : goal.returns-clause-names
returns-clause-names c = names_are_of_one_field

pub returns-clause-options : goal.returns-clause-options
returns-clause-options c = options_are_of_one_field
