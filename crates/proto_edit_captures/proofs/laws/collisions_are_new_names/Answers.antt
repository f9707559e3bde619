use Rattle.proto_edit_captures.proofs.NewNames.{collisions_are_new_names}
use Rattle.proto_edit_captures.proofs.laws.collisions_are_new_names.Goals as goal

pub returns : goal.returns
returns c = collisions_are_new_names
