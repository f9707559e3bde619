use Rattle.proto_edit_captures.proofs.FileOvertaken.{first_is}
use Rattle.proto_edit_captures.proofs.laws.firsts_are_overtaken.Goals as goal

pub returns : goal.returns
returns c = first_is
