use Rattle.proto_answers.proofs.RenameLines.{rename_line_ends_are_lone}
use Rattle.proto_answers.proofs.StepPositions.{steps_have_positions}
use Rattle.proto_answers.proofs.laws.line_ends_are_returns.Goals as goal

pub returns : goal.returns
returns c = record { positions = steps_have_positions; renames = rename_line_ends_are_lone }
