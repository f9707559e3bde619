use Rattle.proto_edit_statement_laws.proofs.Places.{needed_means_else, overtaken_means_else}
use Rattle.proto_edit_statement_laws.proofs.laws.refusals_are_due.Goals as goal

pub returns : goal.returns
returns c = record { overtaken = overtaken_means_else c.adds_import.ensures.overtaken; needed = needed_means_else c.drops_import.ensures.needed }
