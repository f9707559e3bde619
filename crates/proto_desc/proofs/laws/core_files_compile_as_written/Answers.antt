use Rattle.proto_desc.proofs.FilesAsWritten.{core_files_are_described, core_files_compile}
use Rattle.proto_desc.proofs.laws.core_files_compile_as_written.Goals as goal

pub returns : goal.returns
returns c = record { clean = core_files_compile; described = core_files_are_described }
