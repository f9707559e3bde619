use Rattle.proto_edit.proofs.OneAnswer.{steps_are_undone}
use Rattle.proto_edit.proofs.laws.steps_are_undone.Goals as goal

pub returns : goal.returns
returns c = steps_are_undone c.statements_are_known.ensures
