use Rattle.proto_edit_rename_laws.proofs.Places.{places_respelled}
use Rattle.proto_edit_rename_laws.proofs.laws.places_respell.Goals as goal

pub returns : goal.returns
returns c = places_respelled
