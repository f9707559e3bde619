-- What a commit answers, and what it leaves in the store and in the workspace.
use Rattle.std.specs.Prelude.{◌≡◌, ◌⊎◌, ◌<◌, List, [], ◌∷◌, ◌++◌, length, Option, Some, Result, Ok, Err}
use Rattle.proto_files.specs.GivenFiles.{FileOf}
use Rattle.proto_edit_entries.specs.Entries.{ChangeOf}
use Rattle.proto_edit_entries.specs.declared.refusal.Refusal.TheVariants as refusal
use Rattle.proto_edit.specs.Workspaces.{Asked, IsMappedStep, IsRefusal}
use Rattle.proto_journal_records.specs.declared.fault.JournalFault.{JournalFault}
use Rattle.proto_journal_records.specs.declared.fault.JournalFault.TheVariants as fault
use Rattle.proto_journal_records.specs.declared.record.Version.{Version}
use Rattle.proto_journal_records.specs.declared.record.Version.TheVariants.{Second}
use Rattle.proto_journal_records.specs.Records.{RecordOf, done}
use Rattle.proto_journal_records.specs.Journals.{journal_limit, journal_text}
use Rattle.proto_store.specs.Stores.{Held}
use Rattle.proto_journal_records.specs.ReadJournals.{HasOpenEntry, IsReady, IsReadyWith, IsUnreadable}
use Rattle.proto_journal_records.specs.Known.{Over, OverBoth}
use Rattle.proto_journal_records.specs.Torn.{IsTornBetween, Keeps}

-- the store and the workspace are as before
pub record Stays (from to : List FileOf) (old new : Option Held) : Type 0 where
  pub workspace : to ≡ from
  pub store : new ≡ old

-- The edit is made and journalled: where the journal was that of records of which none is open, in
-- either version, it now has them and the entry behind them, done, with the edit, in the second
-- version, and the files are those of the workspace after the edit.
pub record IsCommitted (e : Asked) (entry : List ChangeOf) (from to : List FileOf)
    (old new : Option Held) : Type 0 where
  pub step : IsMappedStep from e entry to
  pub store : OverBoth old new (λ then now. (version : Version) × (records : List RecordOf)
      × IsReadyWith version records then
      × Keeps Second to (records ++ done (Some e) entry ∷ []) now)

-- the store is torn between the files before and after a commit over the old records,
-- in the second version, and the open entry tells the edit
pub record IsTornByCommit (e : Asked) (records : List RecordOf) (entry : List ChangeOf)
    (from made : List FileOf) (now : Held) : Type 0 where
  pub torn : IsTornBetween Second records entry from made now
  pub edit : torn.edit ≡ Some e

-- A store call failed: the store is as before; or the edit can be made, and the store is torn
-- between the files before and after it over the old records, or as after the commit.
abbrev pub IsCommitCut : Asked → List FileOf → Option Held → Option Held → Type 0
IsCommitCut e from old new = (new ≡ old)
    ⊎ ((entry : List ChangeOf) × (made : List FileOf) × IsMappedStep from e entry made
    × OverBoth old new (λ then now. (version : Version) × (records : List RecordOf)
    × IsReadyWith version records then
    × (IsTornByCommit e records entry from made now
    ⊎ Keeps Second made (records ++ done (Some e) entry ∷ []) now)))

-- the edit can be made, but the journal with its entry, in the second version, would pass the limit
abbrev pub IsFull : Asked → List FileOf → Option Held → Type 0
IsFull e from old =
    (entry : List ChangeOf) × (made : List FileOf) × IsMappedStep from e entry made
    × Over old (λ then. (version : Version) × (records : List RecordOf)
    × IsReadyWith version records then
    × (journal_limit < length (journal_text Second (records ++ done (Some e) entry ∷ []))))

-- An answer, the workspace's files before and after, and the store then and now.
abbrev pub CommitOutcome : Asked → List FileOf → List FileOf → Option Held → Option Held
    → Result (List ChangeOf) JournalFault → Type 0
CommitOutcome e from to old new (Ok entry) = IsCommitted e entry from to old new
CommitOutcome e from to old new (Err fault.BadJournal) =
    Stays from to old new × Over old IsUnreadable
CommitOutcome e from to old new (Err fault.NothingToUndo) = ⊥
CommitOutcome e from to old new (Err fault.OpenEntry) =
    Stays from to old new × Over old HasOpenEntry
CommitOutcome e from to old new (Err fault.Store) = (to ≡ from) × IsCommitCut e from old new
CommitOutcome e from to old new (Err fault.JournalFull) = Stays from to old new × IsFull e from old
CommitOutcome e from to old new (Err fault.NoMemory) = Stays from to old new
CommitOutcome e from to old new (Err (fault.Refused refusal.NoMemory)) = ⊥
CommitOutcome e from to old new (Err (fault.Refused r)) =
    Stays from to old new × Over old IsReady × IsRefusal from e r
