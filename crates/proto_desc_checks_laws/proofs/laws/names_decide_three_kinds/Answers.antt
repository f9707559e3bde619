use Rattle.proto_desc_checks_laws.proofs.laws.names_decide_three_kinds.Goals as goal
use Rattle.proto_desc_checks_laws.proofs.RenamedFlaws.{names_decide_three_kinds}

pub returns : goal.returns
returns c = names_decide_three_kinds
