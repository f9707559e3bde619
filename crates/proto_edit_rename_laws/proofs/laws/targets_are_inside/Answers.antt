use Rattle.proto_edit_rename_laws.proofs.Inside.{targets_are_inside}
use Rattle.proto_edit_rename_laws.proofs.laws.targets_are_inside.Goals as goal

pub returns : goal.returns
returns c = targets_are_inside
