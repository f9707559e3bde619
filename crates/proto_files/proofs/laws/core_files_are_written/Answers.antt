use Rattle.proto_files.proofs.CoreFiles.{core_files_are_written, core_files_stay_clean}
use Rattle.proto_files.proofs.laws.core_files_are_written.Goals as goal

pub returns : goal.returns
returns c = record { read = core_files_are_written; clean = core_files_stay_clean }
