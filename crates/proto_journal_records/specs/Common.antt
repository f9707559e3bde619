-- What proofs of this crate name of its own definitions, passed on from one place.
-- Declares nothing.
pub use Rattle.proto_journal_records.specs.Journals.{RecordsAreInOrder, AreTextual, HasNoFeed, IsFirstLine, IsJournal, IsJournalIn, IsRecord, IsTextual, IsTold, is_last_open, is_open, journal_limit, journal_text}
pub use Rattle.proto_journal_records.specs.Known.{CountsFault, CountsJournal, IsSettled, IsStoreOrMemory, Over}
pub use Rattle.proto_journal_records.specs.Laws.{IsReadInOneWay, JournalsShrink}
pub use Rattle.proto_journal_records.specs.Migration.{IsMigrant, IsMigrated, IsOpenFirst, IsSecond, IsMigrationTooLong, MigrateOutcome, MigrationsAreOne, SecondOutcome}
pub use Rattle.proto_journal_records.specs.ReadJournals.{IsReady, IsReadyWith, IsUnreadable}
pub use Rattle.proto_journal_records.specs.RecordText.{state_name}
unfoldable pub use Rattle.proto_journal_records.specs.RecordText.{asked_data, change_data, edit_data, record_data, record_text, splice_data}
pub use Rattle.proto_journal_records.specs.Records.{IsNoted, RecordOf, done, opened, record_of}
pub use Rattle.proto_journal_records.specs.Recovery.{ArePartlyBack, ArePutBack, HasStaleFile, IsPutBack, IsRecovered, IsRecovering, IsRestored, IsUnnamed, RecoverOutcome}
pub use Rattle.proto_journal_records.specs.RecoveryLaws.{CutStaysTorn, IsLateAnswer, RecoveriesAreOne, RecoveryGoesOn, TornBetweenIsTorn, TornComesBack}
pub use Rattle.proto_journal_records.specs.Restoring.{AddsOldFiles, AreListedInStore, AreOldFiles, ArePartlyIn, GoesBackTo, IsAskedFor, IsNeither, IsOldFile, IsStaleOnly, OpenOutcome, StaysAt, with_all, with_files}
pub use Rattle.proto_journal_records.specs.Torn.{IsAsAfter, IsAsBefore, IsBetween, IsEitherWay, IsTorn, IsTornBetween, Keeps}
pub use Rattle.proto_journal_records.specs.declared.fault.JournalFault.{JournalFault}
pub use Rattle.proto_journal_records.specs.declared.record.State.{State}
pub use Rattle.proto_journal_records.specs.declared.record.State.TheVariants.{Done, Open}
pub use Rattle.proto_journal_records.specs.declared.record.Version.{Version}
pub use Rattle.proto_journal_records.specs.declared.record.Version.TheVariants.{First, Second}
