use Rattle.proto_edit_statement_described.proofs.MovedScenes.{scenes_are_moved}
use Rattle.proto_edit_statement_described.proofs.laws.scenes_are_moved.Goals as goal

pub returns : goal.returns
returns c = scenes_are_moved
