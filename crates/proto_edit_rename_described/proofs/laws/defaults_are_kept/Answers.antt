use Rattle.proto_edit_rename_described.proofs.DefaultsKept.{defaults_stay_values}
use Rattle.proto_edit_rename_described.proofs.laws.defaults_are_kept.Goals as goal

pub returns : goal.returns
returns c = defaults_stay_values
