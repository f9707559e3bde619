use Rattle.proto_edit_statement_laws.proofs.Seams.{places_are_seams}
use Rattle.proto_edit_statement_laws.proofs.laws.places_are_seams.Goals as goal

pub returns : goal.returns
returns c = places_are_seams
