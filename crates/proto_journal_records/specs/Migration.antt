-- The move of a journal to the second version: what it answers, and what it leaves in the store.
use Rattle.std.specs.Prelude.{◌≡◌, ◌≢◌, ◌⊎◌, ℕ, ◌<◌, List, [], length, Bool, true, false, Option, Some, None, Result, Ok, Err}
use Rattle.std.specs.Global.{Vec}
use Rattle.proto_base.specs.Texts.{Text}
use Rattle.proto_journal_records.specs.declared.fault.JournalFault.{JournalFault}
use Rattle.proto_journal_records.specs.declared.fault.JournalFault.TheVariants as fault
use Rattle.proto_journal_records.specs.declared.record.Version.TheVariants.{First, Second}
use Rattle.proto_journal_records.specs.Records.{RecordOf}
use Rattle.proto_journal_records.specs.Journals.{IsJournal, IsJournalIn, is_last_open, journal_limit, journal_text}
use Rattle.proto_journal_records.specs.Known.{IsSettled, Over, OverBoth}
use Rattle.proto_journal_records.specs.ReadJournals.{IsUnreadable}
use Rattle.proto_store.specs.Stores.{Held, with_journal}

-- ---- journals

-- a journal of the first version with these records: there are some, and none of them is open
pub record IsMigrant (journal : Text) (records : List RecordOf) : Type 0 where
  pub first : IsJournalIn First journal records
  pub some : journal ≢ []
  pub closed : is_last_open records ≡ false

-- the journal is of the second version, or empty
abbrev pub IsSecond : Text → Type 0
IsSecond journal = (records : List RecordOf) × IsJournalIn Second journal records

-- the journal is of the first version, and its last entry is open
abbrev pub IsOpenFirst : Text → Type 0
IsOpenFirst journal = (records : List RecordOf)
    × IsJournalIn First journal records × (is_last_open records ≡ true)

-- the journal is of the first version, and its text in the second would pass the limit
abbrev pub IsMigrationTooLong : Text → Type 0
IsMigrationTooLong journal = (records : List RecordOf)
    × IsMigrant journal records × (journal_limit < length (journal_text Second records))

-- the text of the second version that a journal gets, if any; or why it gets none
abbrev pub SecondOutcome : Text → Result (Option (Vec ℕ)) JournalFault → Type 0
SecondOutcome journal (Ok (Some text)) = (records : List RecordOf)
    × IsMigrant journal records × IsJournalIn Second text.items records
SecondOutcome journal (Ok None) = IsSecond journal
SecondOutcome journal (Err fault.BadJournal) =
    (records : List RecordOf) → IsJournal journal records → ⊥
SecondOutcome journal (Err fault.NothingToUndo) = ⊥
SecondOutcome journal (Err fault.OpenEntry) = IsOpenFirst journal
SecondOutcome journal (Err fault.Store) = ⊥
SecondOutcome journal (Err fault.JournalFull) = IsMigrationTooLong journal
SecondOutcome journal (Err fault.NoMemory) = Unit {0}
SecondOutcome journal (Err (fault.Refused _)) = ⊥

-- ---- stores

-- the journal was of the first version: it has the same records in
-- the second now, of whose edits nothing is told, and the files stay
abbrev pub IsMigrated : Held → Held → Type 0
IsMigrated then now = (records : List RecordOf) × IsMigrant then.journal records
    × IsJournalIn Second now.journal records
    × (now ≡ with_journal (journal_text Second records) then)

-- An answer, and the store then and now.
abbrev pub MigrateOutcome : Option Held → Option Held → Result Bool JournalFault → Type 0
MigrateOutcome old new (Ok true) = OverBoth old new IsMigrated
MigrateOutcome old new (Ok false) = (new ≡ old) × Over old (λ held. IsSecond held.journal)
MigrateOutcome old new (Err fault.BadJournal) = (new ≡ old) × Over old IsUnreadable
MigrateOutcome old new (Err fault.NothingToUndo) = ⊥
MigrateOutcome old new (Err fault.OpenEntry) =
    (new ≡ old) × Over old (λ held. IsOpenFirst held.journal)
MigrateOutcome old new (Err fault.Store) = (new ≡ old) ⊎ OverBoth old new IsMigrated
MigrateOutcome old new (Err fault.JournalFull) =
    (new ≡ old) × Over old (λ held. IsMigrationTooLong held.journal)
MigrateOutcome old new (Err fault.NoMemory) = new ≡ old
MigrateOutcome old new (Err (fault.Refused _)) = ⊥

-- Where no call of the store fails and memory is there, the
-- store decides what is answered, and what is left.
abbrev pub MigrationsAreOne : Type 0
MigrationsAreOne = (old : Held) (new now : Option Held) (a b : Result Bool JournalFault)
    → IsSettled a → IsSettled b
    → MigrateOutcome (Some old) new a → MigrateOutcome (Some old) now b
    → (a ≡ b) × (new ≡ now)
