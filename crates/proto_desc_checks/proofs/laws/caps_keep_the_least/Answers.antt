use Rattle.proto_desc_checks.proofs.laws.caps_keep_the_least.Goals as goal
use Rattle.proto_desc_checks.proofs.CappedFlaws.{caps_keep_the_least}

pub returns : goal.returns
returns c = caps_keep_the_least
