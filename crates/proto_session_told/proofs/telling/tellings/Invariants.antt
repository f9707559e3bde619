use Rattle.std.proofs.Common.{length, map}
use Rattle.proto_session_files.specs.Views.{view_at}
use Rattle.proto_session_told.specs.Shown.{shown_of}
use Rattle.proto_session_told.specs.Telling.{told_of}
use Rattle.proto_session_told.proofs.ByFile.{AreToldSoFar}
use Rattle.proto_session_told.proofs.telling.tellings.Given as goal

abbrev pub invariant-loop-rest : goal.invariant-loop-rest
invariant-loop-rest l = AreToldSoFar (view_at l.view) (map shown_of l.shown) (map shown_of l.rest) (map told_of l.told.items)

abbrev pub decreases-loop-rest : goal.decreases-loop-rest
decreases-loop-rest l = length l.rest
