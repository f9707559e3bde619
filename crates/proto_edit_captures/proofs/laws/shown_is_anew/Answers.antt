use Rattle.proto_edit_captures.proofs.NewlyShown.{shown_is_anew}
use Rattle.proto_edit_captures.proofs.laws.shown_is_anew.Goals as goal

pub returns : goal.returns
returns c = shown_is_anew
