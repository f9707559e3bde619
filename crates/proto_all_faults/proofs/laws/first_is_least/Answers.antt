use Rattle.proto_all_faults.proofs.GivenFaults.{first_is_least, none_is_listed}
use Rattle.proto_all_faults.proofs.laws.first_is_least.Goals as goal

pub returns : goal.returns
returns c = record { first = first_is_least; none = none_is_listed }
