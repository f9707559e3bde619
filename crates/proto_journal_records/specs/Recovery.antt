-- What recovery answers, and what it leaves in the store.
use Rattle.std.specs.Prelude.{◌≡◌, ◌≢◌, ◌⊎◌, List, [], ◌∷◌, ◌++◌, Bool, true, false, Option, Some, Result, Ok, Err}
use Rattle.std.specs.List.{Contains}
use Rattle.proto_base.specs.Texts.{Path, Text}
use Rattle.proto_text.specs.Edits.{Puts}
use Rattle.proto_files.specs.GivenFiles.{FileOf, paths_of}
use Rattle.proto_edit_entries.specs.EditsAsked.{Asked}
use Rattle.proto_edit_entries.specs.Entries.{ChangeOf, turned_round}
use Rattle.proto_edit_entries.specs.declared.refusal.Refusal.TheVariants as refusal
use Rattle.proto_journal_records.specs.declared.fault.JournalFault.{JournalFault}
use Rattle.proto_journal_records.specs.declared.fault.JournalFault.TheVariants as fault
use Rattle.proto_journal_records.specs.declared.record.Version.{Version}
use Rattle.proto_journal_records.specs.Records.{RecordOf, opened}
use Rattle.proto_journal_records.specs.Journals.{IsJournalIn}
use Rattle.proto_store.specs.Stores.{Held, bytes_at, languages_of}
use Rattle.proto_journal_records.specs.Known.{Over, OverBoth}
use Rattle.proto_journal_records.specs.ReadJournals.{IsReady, IsUnreadable}
use Rattle.proto_journal_records.specs.Torn.{IsAsAfter, IsAsBefore, IsEitherWay, IsTorn}

-- ---- files put back

-- the text of a changed file, and what recovery makes of it: as before the change it stays, as
-- after it gets the inverted splices
abbrev pub IsRestored : ChangeOf → Text → Text → Type 0
IsRestored c text new = (IsAsBefore c text × (new ≡ text))
    ⊎ (IsAsAfter c text × Puts 0 text (turned_round c).splices new)

-- the file of a change is there, and is put back
pub record IsPutBack (c : ChangeOf) (old new : List FileOf) : Type 0 where
  pub text : Text
  pub back : Text
  pub was : bytes_at c.path old ≡ Some text
  pub is : bytes_at c.path new ≡ Some back
  pub restored : IsRestored c text back

-- no change of the entry is of the path
abbrev pub IsUnnamed : List ChangeOf → Path → Type 0
IsUnnamed entry path = (c : ChangeOf) → Contains entry c → c.path ≢ path

-- each file of the entry is put back, and no other file changes
pub record ArePutBack (entry : List ChangeOf) (old new : List FileOf) : Type 0 where
  pub paths : paths_of new ≡ paths_of old
  pub languages : languages_of new ≡ languages_of old
  pub each : (c : ChangeOf) → Contains entry c → IsPutBack c old new
  pub others : (path : Path) → IsUnnamed entry path → bytes_at path new ≡ bytes_at path old

-- each file of the entry is as it was or is put back, and no other file changes
pub record ArePartlyBack (entry : List ChangeOf) (old new : List FileOf) : Type 0 where
  pub paths : paths_of new ≡ paths_of old
  pub languages : languages_of new ≡ languages_of old
  pub each : (c : ChangeOf) → Contains entry c
      → (bytes_at c.path new ≡ bytes_at c.path old) ⊎ IsPutBack c old new
  pub others : (path : Path) → IsUnnamed entry path → bytes_at path new ≡ bytes_at path old

-- ---- stores

-- The store was torn. Its files are those from before the entry
-- now, and the journal is without the entry, in the version that it had.
pub record IsRecovered (version : Version) (records : List RecordOf) (entry : List ChangeOf)
    (then now : Held) : Type 0 where
  pub torn : IsTorn version records entry then
  pub files : ArePutBack entry then.files now.files
  pub journal : IsJournalIn version now.journal records

-- The store was torn, and is so still: some of its
-- files may be put back, and the journal is as it was.
pub record IsRecovering (version : Version) (records : List RecordOf) (entry : List ChangeOf)
    (then now : Held) : Type 0 where
  pub torn : IsTorn version records entry then
  pub files : ArePartlyBack entry then.files now.files
  pub journal : now.journal ≡ then.journal

-- A store call failed: the store is as before, or it was torn and is so still, or it is recovered.
abbrev pub IsRecoveryCut : Option Held → Option Held → Type 0
IsRecoveryCut old new = (new ≡ old)
    ⊎ OverBoth old new (λ then now.
    (version : Version) × (records : List RecordOf) × (entry : List ChangeOf)
    × (IsRecovering version records entry then now ⊎ IsRecovered version records entry then now))

-- the last entry is open, and one of its files is
-- not there, or is neither as before nor as after it
abbrev pub HasStaleFile : Held → Type 0
HasStaleFile held = (version : Version) × (records : List RecordOf) × (edit : Option Asked)
    × (entry : List ChangeOf) × IsJournalIn version held.journal (records ++ opened edit entry ∷ [])
    × (c : ChangeOf) × Contains entry c × (IsEitherWay held.files c → ⊥)

-- An answer, and the store then and now.
abbrev pub RecoverOutcome : Option Held → Option Held → Result Bool JournalFault → Type 0
RecoverOutcome old new (Ok true) = OverBoth old new (λ then now.
    (version : Version) × (records : List RecordOf) × (entry : List ChangeOf)
    × IsRecovered version records entry then now)
RecoverOutcome old new (Ok false) = (new ≡ old) × Over old IsReady
RecoverOutcome old new (Err fault.BadJournal) = (new ≡ old) × Over old IsUnreadable
RecoverOutcome old new (Err fault.NothingToUndo) = ⊥
RecoverOutcome old new (Err fault.OpenEntry) = ⊥
RecoverOutcome old new (Err fault.Store) = IsRecoveryCut old new
RecoverOutcome old new (Err fault.JournalFull) = ⊥
RecoverOutcome old new (Err fault.NoMemory) = new ≡ old
RecoverOutcome old new (Err (fault.Refused refusal.Stale)) = (new ≡ old) × Over old HasStaleFile
RecoverOutcome old new (Err (fault.Refused _)) = ⊥
