use Rattle.std.proofs.Common.{◌≡◌, ◌+◌, drop}
use Rattle.proto_files.proofs.Common.{files_of}
use Rattle.proto_session_files.specs.Seeing.{place_for}
use Rattle.proto_session_files.proofs.seeing.place_for.Given as goal

abbrev pub invariant-loop-place : goal.invariant-loop-place
invariant-loop-place l = l.place + place_for l.path (files_of (drop l.place l.files)) ≡ place_for l.path (files_of l.files)
