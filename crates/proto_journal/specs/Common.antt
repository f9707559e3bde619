-- What proofs of this crate name of its own definitions, passed on from one place.
-- Declares nothing.
pub use Rattle.proto_journal.specs.Commits.{CommitOutcome, IsCommitCut, IsCommitted, IsFull, IsTornByCommit, Stays}
pub use Rattle.proto_journal.specs.Laws.{CommitsAreOne, CutCommitsComeBack, CutUndosComeBack, IsBackInSecond, IsSameAnswer, IsSameRefusal, UndosAreOne}
pub use Rattle.proto_journal.specs.Loads.{IsUnready}
pub use Rattle.proto_journal.specs.Undoing.{EndsIn, IsStale, IsTornByUndo, IsUndoCut, IsUndone, UndoOutcome}
pub use Rattle.proto_journal.specs.Written.{AddsTo, HasLast, IsReadyText, IsUnprepared, IsUnwritten, Passes, Reopens, Shortens, held}
