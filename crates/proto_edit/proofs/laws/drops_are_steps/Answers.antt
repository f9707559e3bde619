use Rattle.proto_edit.specs.Workspaces.{drop_import}
use Rattle.proto_edit.proofs.EditSteps.{admissible_step}
use Rattle.proto_edit.proofs.laws.drops_are_steps.Goals as goal

pub returns : goal.returns
returns c = λ files file path has ok. admissible_step c.statements_are_known.ensures files (drop_import file path) has ok
