use Rattle.proto_names_affected.proofs.Referring.{marked_are_gathered, others_stay, references_rise}
use Rattle.proto_names_affected.proofs.laws.references_are_parted.Goals as goal

pub returns-clause-rise : goal.returns-clause-rise
returns-clause-rise g c = references_rise

pub returns-clause-stay : goal.returns-clause-stay
returns-clause-stay g c = others_stay

pub returns-clause-gathered : goal.returns-clause-gathered
returns-clause-gathered g c = marked_are_gathered
