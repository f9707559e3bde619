use Rattle.proto_edit_rename_laws.proofs.ChangesPut.{changes_are_put}
use Rattle.proto_edit_rename_laws.proofs.laws.changes_are_put.Goals as goal

pub returns : goal.returns
returns c = changes_are_put
