use Rattle.proto_edit.proofs.EditSteps.{edits_are_made, steps_compile}
use Rattle.proto_edit.proofs.OptionSteps.{steps_leave_options}
use Rattle.proto_edit.proofs.laws.edits_compile.Goals as goal

pub returns : goal.returns
returns c = record { made = edits_are_made c.statements_are_known.ensures; mapped = steps_compile c.statements_are_known.ensures; options = steps_leave_options c.statements_are_known.ensures c.options_are_known.ensures }
