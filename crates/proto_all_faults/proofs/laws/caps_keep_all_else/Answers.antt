use Rattle.proto_all_faults.proofs.GivenFaults.{caps_keep_all_else}
use Rattle.proto_all_faults.proofs.laws.caps_keep_all_else.Goals as goal

pub returns : goal.returns
returns c = caps_keep_all_else
