use Rattle.std.proofs.Common.{arith}
use Rattle.std.proofs.lemmas.Grind.{common_steps}
use Rattle.proto_edit_statements.proofs.import_places.end_before_import.Goals as goal

pub returns : goal.returns
returns c = grind (arith, common_steps)
