use Rattle.proto_edit_rename_laws.proofs.Captures.{captures_begin_anew}
use Rattle.proto_edit_rename_laws.proofs.laws.captures_begin_anew.Goals as goal

pub returns : goal.returns
returns c = captures_begin_anew
