use Rattle.proto_edit.specs.Workspaces.{delete_field}
use Rattle.proto_edit.proofs.EditSteps.{admissible_step}
use Rattle.proto_edit.proofs.laws.deletions_are_steps.Goals as goal

pub returns : goal.returns
returns c = λ files name has ok. admissible_step c.statements_are_known.ensures files (delete_field name) has ok
