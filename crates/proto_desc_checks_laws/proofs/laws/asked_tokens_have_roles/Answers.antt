use Rattle.proto_desc_checks_laws.proofs.laws.asked_tokens_have_roles.Goals as goal
use Rattle.proto_desc_checks_laws.proofs.Roles.{asked_tokens_have_roles, defaults_are_not_asked, field_options_have_roles, names_are_not_asked, value_numbers_are_numbers}

pub returns-clause-asked : goal.returns-clause-asked
returns-clause-asked c = asked_tokens_have_roles

pub returns-clause-options : goal.returns-clause-options
returns-clause-options c = field_options_have_roles

pub returns-clause-numbers : goal.returns-clause-numbers
returns-clause-numbers c = value_numbers_are_numbers

pub returns-clause-names : goal.returns-clause-names
returns-clause-names c = names_are_not_asked

pub returns-clause-defaults : goal.returns-clause-defaults
returns-clause-defaults c = defaults_are_not_asked
