use Rattle.std.proofs.Common.{◌≡◌, drop}
use Rattle.std.specs.List.{find}
use Rattle.proto_base.proofs.Common.{files_of}
use Rattle.proto_session_replies.specs.Symbols.{has_path}
use Rattle.proto_session_replies.proofs.symbols.file_at.Given as goal

abbrev pub invariant-loop-file : goal.invariant-loop-file
invariant-loop-file l =
    find (has_path l.path) (files_of l.files) ≡ find (has_path l.path) (files_of (drop l.file-index l.files))
