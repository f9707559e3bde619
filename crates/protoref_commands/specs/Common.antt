-- What proofs of this crate name of its own definitions, passed on from one place.
-- Declares nothing.
pub use Rattle.protoref_commands.specs.Changes.{AnswersEdit, AnswersUndo, Begins, IsEditCut, IsUndoingCut, MayBegin, of_change, of_files, of_journal}
pub use Rattle.protoref_commands.specs.Migrations.{AnswersMigration, IsMigrationCut}
pub use Rattle.protoref_commands.specs.Printed.{Compiles, TellsFault}
pub use Rattle.protoref_commands.specs.Told.{CountsAlike, IsFaultTold, IsNoRefusal, TellsOutcome, Tells, TellsOf}
pub use Rattle.protoref_commands.specs.declared.beginning.Beginning.{Beginning}
