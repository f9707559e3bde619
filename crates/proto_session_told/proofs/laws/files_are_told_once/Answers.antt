use Rattle.proto_session_told.proofs.ToldOnce.{files_are_told_once}
use Rattle.proto_session_told.proofs.laws.files_are_told_once.Goals as goal

pub returns : goal.returns
returns c = files_are_told_once
