use Rattle.proto_edit_rename_described.proofs.ScenesTurn.{meanings_are_turned, names_are_turned}
use Rattle.proto_edit_rename_described.proofs.laws.scenes_turn.Goals as goal

pub returns : goal.returns
returns c = record { names = names_are_turned; meanings = meanings_are_turned }
