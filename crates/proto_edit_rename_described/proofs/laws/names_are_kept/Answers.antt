use Rattle.proto_edit_rename_described.proofs.NamesKept.{json_names_stay, reserved_names_stay}
use Rattle.proto_edit_rename_described.proofs.laws.names_are_kept.Goals as goal

pub returns : goal.returns
returns c = record { reserved = reserved_names_stay; json = json_names_stay }
