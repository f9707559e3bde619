use Rattle.proto_desc.proofs.Opened.{no_open_fault, one_open_fault}
use Rattle.proto_desc.proofs.laws.one_fault_is_answered.Goals as goal

pub returns : goal.returns
returns c = record { one = one_open_fault; none = no_open_fault }
