-- What proofs of this crate name of its own definitions, passed on from one place.
-- Declares nothing.
pub use Rattle.proto_all_faults.specs.AllFaults.{CheckFaultsUpTo, FaultsUpTo, FileFaultsUpTo, FirstPhase}
pub use Rattle.proto_all_faults.specs.Laws.{AreAllFaults, CapsKeepAllElse, FirstIsLeast, HasLower, NoneIsListed}
pub use Rattle.proto_all_faults.specs.ListedPaths.{fault_if, faults_at, path_fault}
unfoldable pub use Rattle.proto_all_faults.specs.ListedPaths.{path_faults_from}
pub use Rattle.proto_all_faults.specs.Steps.{AddsIfAny, AreFound, AreSortedOf, HasSorted, IsAdded, IsFaultIfAny, as_list, faults_before, faults_in}
