use Rattle.proto_edit_rename_laws.proofs.Inside.{tokens_are_inside}
use Rattle.proto_edit_rename_laws.proofs.laws.tokens_are_inside.Goals as goal

pub returns : goal.returns
returns c = tokens_are_inside
