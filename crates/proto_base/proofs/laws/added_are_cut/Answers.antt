use Rattle.proto_base.proofs.TakenBack.{added_are_cut}
use Rattle.proto_base.proofs.laws.added_are_cut.Goals as goal

pub returns : goal.returns
returns g c = added_are_cut
