use Rattle.proto_edit_rename_laws.proofs.PlacesSuit.{places_are_suited}
use Rattle.proto_edit_rename_laws.proofs.laws.places_suit.Goals as goal

pub returns : goal.returns
returns c = places_are_suited
