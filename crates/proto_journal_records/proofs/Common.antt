-- What proofs of the crates above name of this crate, passed on from one place. Declares nothing.
pub use Rattle.proto_journal_records.specs.FaultTable.{fault_of_refusal}
pub use Rattle.proto_journal_records.specs.Journals.{IsJournal, IsJournalIn, IsRecord, IsTold, is_last_open, is_open, journal_limit, journal_text}
pub use Rattle.proto_journal_records.specs.Known.{CountsFault, IsSettled, IsStoreOrMemory, Over, OverBoth}
pub use Rattle.proto_journal_records.specs.Laws.{IsReadInOneWay, JournalsGrow, JournalsMigrate, JournalsShrink, StatesKeepLength}
pub use Rattle.proto_journal_records.specs.ReadJournals.{HasOpenEntry, IsReady, IsReadyWith, IsUnreadable}
unfoldable pub use Rattle.proto_journal_records.specs.RecordText.{record_text}
pub use Rattle.proto_journal_records.specs.Records.{IsNoted, RecordOf, done, opened}
pub use Rattle.proto_journal_records.specs.Torn.{IsBetween, IsTornBetween, Keeps}
pub use Rattle.proto_journal_records.proofs.UnreadJournals.{unread}
