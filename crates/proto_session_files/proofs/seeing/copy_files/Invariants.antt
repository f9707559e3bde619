use Rattle.std.proofs.Common.{◌≡◌, take}
use Rattle.proto_files.specs.GivenFiles.{files_of}
use Rattle.proto_session_files.proofs.seeing.copy_files.Given as goal

abbrev pub invariant-loop-file : goal.invariant-loop-file
invariant-loop-file l =
    files_of l.copies.items ≡ files_of (take l.file-index l.files)
