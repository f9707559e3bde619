use Rattle.proto_edit_rename_laws.proofs.Scenes.{scenes_are_apart}
use Rattle.proto_edit_rename_laws.proofs.laws.scenes_differ.Goals as goal

pub returns : goal.returns
returns c = scenes_are_apart
