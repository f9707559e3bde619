use Rattle.std.proofs.Common.{◌≡◌, drop}
use Rattle.proto_files.proofs.Common.{files_of}
use Rattle.proto_store.proofs.Common.{bytes_at}
use Rattle.proto_session_told.proofs.diagnostics.text_at.Given as goal

abbrev pub invariant-loop-file : goal.invariant-loop-file
invariant-loop-file l = bytes_at l.path (files_of l.files) ≡ bytes_at l.path (files_of (drop l.file-index l.files))
