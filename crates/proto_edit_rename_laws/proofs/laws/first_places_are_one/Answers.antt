use Rattle.proto_edit_rename_laws.proofs.FirstPlaces.{first_places_are_one, first_places_are_there}
use Rattle.proto_edit_rename_laws.proofs.laws.first_places_are_one.Goals as goal

pub returns : goal.returns
returns c = record { there = first_places_are_there c.decisions.ensures.captured; one = first_places_are_one }
