use Rattle.proto_edit_rename_laws.proofs.OneTarget.{targets_are_one}
use Rattle.proto_edit_rename_laws.proofs.TargetThere.{targets_are_there}
use Rattle.proto_edit_rename_laws.proofs.laws.targets_are_one.Goals as goal

pub returns : goal.returns
returns c = record { one = targets_are_one; there = targets_are_there }
