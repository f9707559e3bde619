use Rattle.proto_edit_rename_described.proofs.FilesTurn.{all_are_mapped, files_turn, renames_are_mapped}
use Rattle.proto_edit_rename_described.proofs.laws.files_turn.Goals as goal

pub returns : goal.returns
returns c = record { each = files_turn; described = all_are_mapped; mapped = renames_are_mapped }
