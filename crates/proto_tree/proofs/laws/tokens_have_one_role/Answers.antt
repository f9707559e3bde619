use Rattle.proto_tree.proofs.Roles.{roles_are_of_tokens, roles_are_of_tokens_in, tokens_have_roles, tokens_have_roles_in, roles_are_one, roles_are_one_in}
use Rattle.proto_tree.proofs.laws.tokens_have_one_role.Goals as goal

pub returns-clause-there : goal.returns-clause-there
returns-clause-there c = roles_are_of_tokens

pub returns-clause-there_in : goal.returns-clause-there_in
returns-clause-there_in c = roles_are_of_tokens_in

pub returns-clause-each : goal.returns-clause-each
returns-clause-each c = tokens_have_roles

pub returns-clause-each_in : goal.returns-clause-each_in
returns-clause-each_in c = tokens_have_roles_in

pub returns-clause-one : goal.returns-clause-one
returns-clause-one c = roles_are_one

pub returns-clause-one_in : goal.returns-clause-one_in
returns-clause-one_in c = roles_are_one_in
