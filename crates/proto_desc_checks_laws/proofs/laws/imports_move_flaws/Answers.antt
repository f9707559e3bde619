use Rattle.proto_desc_checks_laws.proofs.laws.imports_move_flaws.Goals as goal
use Rattle.proto_desc_checks_laws.proofs.MovedFlaws.{imports_move_flaws}

pub returns : goal.returns
returns c = imports_move_flaws
