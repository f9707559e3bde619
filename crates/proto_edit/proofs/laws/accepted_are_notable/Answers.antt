use Rattle.proto_edit.proofs.NotableEdits.{accepted_are_notable}
use Rattle.proto_edit.proofs.laws.accepted_are_notable.Goals as goal

pub returns : goal.returns
returns c = accepted_are_notable
