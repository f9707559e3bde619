use Rattle.std.proofs.Common.{◌≡◌, take}
use Rattle.proto_files.specs.GivenFiles.{files_of}
use Rattle.proto_session.proofs.notifying.are_same.Given as goal

abbrev pub invariant-loop-place : goal.invariant-loop-place
invariant-loop-place l =
    files_of (take l.place l.files) ≡ files_of (take l.place l.others)
