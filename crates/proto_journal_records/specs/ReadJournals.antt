-- What a store's journal says to a call.
use Rattle.std.specs.Prelude.{◌≡◌, List, true, false}
use Rattle.proto_journal_records.specs.declared.record.Version.{Version}
use Rattle.proto_journal_records.specs.Records.{RecordOf}
use Rattle.proto_journal_records.specs.Journals.{IsJournal, IsJournalIn, is_last_open}
use Rattle.proto_store.specs.Stores.{Held}

-- the journal is none: it has no records
abbrev pub IsUnreadable : Held → Type 0
IsUnreadable held = (records : List RecordOf) → IsJournal held.journal records → ⊥

-- the journal's last entry is open
abbrev pub HasOpenEntry : Held → Type 0
HasOpenEntry held =
    (records : List RecordOf) × IsJournal held.journal records × (is_last_open records ≡ true)

-- the journal is that of these records in this version, and none of them is open
pub record IsReadyWith (version : Version) (records : List RecordOf) (held : Held) : Type 0 where
  pub journal : IsJournalIn version held.journal records
  pub closed : is_last_open records ≡ false

-- the journal is that of some records, of which none is open
abbrev pub IsReady : Held → Type 0
IsReady held = (version : Version) × (records : List RecordOf) × IsReadyWith version records held
