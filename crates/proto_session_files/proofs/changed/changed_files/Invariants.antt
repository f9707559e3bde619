use Rattle.proto_base.specs.GivenFiles.{files_of_as}
use Rattle.proto_session_files.proofs.ChangedFiles.{ChangedSoFar}
use Rattle.proto_session_files.proofs.changed.changed_files.Given as goal

abbrev pub invariant-loop-place : goal.invariant-loop-place
invariant-loop-place l = ChangedSoFar l.profile l.clean l.files l.place (files_of_as l.profile l.changed.items)
