use Rattle.proto_edit.proofs.MappedSteps.{admissible_renames_step, renames_are_steps}
use Rattle.proto_edit.proofs.laws.renames_are_steps.Goals as goal

pub returns : goal.returns
returns c = record { steps = renames_are_steps; there = admissible_renames_step }
