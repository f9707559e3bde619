use Rattle.proto_edit_statement_described.proofs.ImportedScenes.{moved_files_read}
use Rattle.proto_edit_statement_described.proofs.OtherScenes.{other_scenes_stay}
use Rattle.proto_edit_statement_described.proofs.laws.scenes_stay.Goals as goal

pub returns : goal.returns
returns c = record { others = other_scenes_stay; moved = moved_files_read }
