-- What the undo of the last entry answers, and what it leaves in the store and in the workspace.
use Rattle.std.specs.Prelude.{◌≡◌, ◌⊎◌, List, [], ◌∷◌, ◌++◌, Option, Result, Ok, Err}
use Rattle.proto_files.specs.GivenFiles.{FileOf}
use Rattle.proto_edit_entries.specs.EditsAsked.{Asked}
use Rattle.proto_edit_entries.specs.Entries.{ChangeOf}
use Rattle.proto_edit_entries.specs.declared.refusal.Refusal.TheVariants as refusal
use Rattle.proto_edit.specs.Workspaces.{IsUndo}
use Rattle.proto_journal_records.specs.declared.fault.JournalFault.{JournalFault}
use Rattle.proto_journal_records.specs.declared.fault.JournalFault.TheVariants as fault
use Rattle.proto_journal_records.specs.declared.record.Version.{Version}
use Rattle.proto_journal_records.specs.Records.{RecordOf, done}
use Rattle.proto_journal_records.specs.Journals.{IsJournalIn}
use Rattle.proto_store.specs.Stores.{Held}
use Rattle.proto_journal.specs.Commits.{Stays}
use Rattle.proto_journal_records.specs.ReadJournals.{HasOpenEntry, IsUnreadable}
use Rattle.proto_journal_records.specs.Known.{Over, OverBoth}
use Rattle.proto_journal_records.specs.Torn.{IsTornBetween, Keeps}

-- the journal is that of these records and of the entry behind them, done, in this version
abbrev pub EndsIn : Version → List RecordOf → List ChangeOf → Held → Type 0
EndsIn version records entry held = (edit : Option Asked)
    × IsJournalIn version held.journal (records ++ done edit entry ∷ [])

-- The last entry is undone: the workspace and the store have the
-- files from before it, and the journal is without it, in its version.
pub record IsUndone (entry : List ChangeOf) (from to : List FileOf) (old new : Option Held)
    : Type 0 where
  pub files : IsUndo from entry to
  pub store : OverBoth old new (λ then now. (version : Version) × (records : List RecordOf)
      × EndsIn version records entry then × Keeps version to records now)

-- torn between these files over these records, by the entry that ended the journal, with its edit
abbrev pub IsTornByUndo : (version : Version) → (records : List RecordOf) → (entry : List ChangeOf)
    → (then : Held) → EndsIn version records entry then → List FileOf → List FileOf → Held → Type 0
IsTornByUndo version records entry then ends made from now =
    (torn : IsTornBetween version records entry made from now) × (torn.edit ≡ ends.0)

-- A store call failed: the store is as before; or the last entry
-- can be undone, and the store is torn between the files before and
-- after the entry over the records before it, or as after the undo.
abbrev pub IsUndoCut : List FileOf → Option Held → Option Held → Type 0
IsUndoCut from old new = (new ≡ old)
    ⊎ ((entry : List ChangeOf) × (made : List FileOf) × IsUndo from entry made
    × OverBoth old new (λ then now. (version : Version) × (records : List RecordOf)
    × (ends : EndsIn version records entry then)
    × (IsTornByUndo version records entry then ends made from now
    ⊎ Keeps version made records now)))

-- The last entry can't be undone: its files are not as
-- it left them, or what was before it would not compile.
abbrev pub IsStale : List FileOf → Option Held → Type 0
IsStale from old = (entry : List ChangeOf) × ((before : List FileOf) → IsUndo from entry before → ⊥)
    × Over old (λ then.
    (version : Version) × (records : List RecordOf) × EndsIn version records entry then)

-- An answer, the workspace's files before and after, and the store then and now.
abbrev pub UndoOutcome : List FileOf → List FileOf → Option Held → Option Held
    → Result (List ChangeOf) JournalFault → Type 0
UndoOutcome from to old new (Ok entry) = IsUndone entry from to old new
UndoOutcome from to old new (Err fault.BadJournal) = Stays from to old new × Over old IsUnreadable
UndoOutcome from to old new (Err fault.NothingToUndo) =
    Stays from to old new × Over old (λ then. then.journal ≡ [])
UndoOutcome from to old new (Err fault.OpenEntry) = Stays from to old new × Over old HasOpenEntry
UndoOutcome from to old new (Err fault.Store) = (to ≡ from) × IsUndoCut from old new
UndoOutcome from to old new (Err fault.JournalFull) = ⊥
UndoOutcome from to old new (Err fault.NoMemory) = Stays from to old new
UndoOutcome from to old new (Err (fault.Refused refusal.Stale)) =
    Stays from to old new × IsStale from old
UndoOutcome from to old new (Err (fault.Refused _)) = ⊥
