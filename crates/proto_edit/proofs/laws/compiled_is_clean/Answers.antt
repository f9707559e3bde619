use Rattle.proto_edit.proofs.GivenAgain.{compiled_are_read, workspaces_are_clean}
use Rattle.proto_edit.proofs.laws.compiled_is_clean.Goals as goal

pub returns : goal.returns
returns c = record { whole = workspaces_are_clean; read = compiled_are_read }
