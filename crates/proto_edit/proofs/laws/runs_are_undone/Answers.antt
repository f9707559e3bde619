use Rattle.proto_edit_entries.proofs.Puts.{puts_are_once}
use Rattle.proto_edit.proofs.EditSteps.{runs_are_undone, undone_once}
use Rattle.proto_edit.proofs.laws.runs_are_undone.Goals as goal

pub returns : goal.returns
returns c = record { back = runs_are_undone c.statements_are_known.ensures; puts = puts_are_once; once = undone_once }
