use Rattle.proto_edit_statement_laws.proofs.Places.{needed_places_are_one, needed_places_are_there, overtaken_places_are_one, overtaken_places_are_there}
use Rattle.proto_edit_statement_laws.proofs.laws.places_are_one.Goals as goal

pub returns : goal.returns
returns c = record { overtaken = overtaken_places_are_there; one_overtaken = overtaken_places_are_one; needed = needed_places_are_there; one_needed = needed_places_are_one }
