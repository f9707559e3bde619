-- Laws of what is told, for the layers above.
use Rattle.std.specs.Prelude.{List}
use Rattle.std.specs.List.{AllPairs}
use Rattle.proto_base.specs.GivenFiles.{FileOf}
use Rattle.proto_files.specs.WorkspacePaths.{IsBefore}
use Rattle.proto_session_told.specs.Shown.{IsShown, ShownOf, runs}
use Rattle.proto_session_told.specs.Telling.{path_of_run}

-- Each file of which something is shown has one list, and these are in the order of their paths: an
-- editor shows of a document what it was told last, so two would leave the first unsaid.
abbrev pub FilesAreToldOnce : Type 0
FilesAreToldOnce =
    (files : List FileOf) (shown : List ShownOf) → IsShown files shown
    → AllPairs (λ a b. IsBefore (path_of_run a) (path_of_run b)) (runs shown)
