use Rattle.proto_edit_rename_described.proofs.CleanFiles.{clean_files_are_read}
use Rattle.proto_edit_rename_described.proofs.laws.clean_files_are_read.Goals as goal

pub returns : goal.returns
returns c = clean_files_are_read
