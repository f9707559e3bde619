use Rattle.proto_edit_rename_laws.proofs.TokenRoles.{tokens_have_roles}
use Rattle.proto_edit_rename_laws.proofs.laws.tokens_have_roles.Goals as goal

pub returns : goal.returns
returns c = tokens_have_roles
