-- Where a store stands while files and journal are written, and what is made before.
use Rattle.std.specs.Prelude.{◌≡◌, ◌≢◌, ◌⊎◌, ◌<◌, List, [], ◌∷◌, ◌++◌, length, false, Option, None, Some, option_map}
use Rattle.proto_base.specs.Texts.{Text}
use Rattle.proto_files.specs.GivenFiles.{FileOf}
use Rattle.proto_edit_entries.specs.Entries.{ChangeOf}
use Rattle.proto_edit_entries.specs.declared.refusal.Refusal.TheVariants as refusal
use Rattle.proto_edit.specs.Workspaces.{Asked, IsMappedStep, IsRefusal}
use Rattle.proto_journal_records.specs.declared.fault.JournalFault.{JournalFault}
use Rattle.proto_journal_records.specs.declared.fault.JournalFault.TheVariants as fault
use Rattle.proto_journal_records.specs.declared.record.Version.{Version}
use Rattle.proto_journal_records.specs.declared.record.Version.TheVariants.{Second}
use Rattle.proto_journal_records.specs.Records.{RecordOf, done, opened}
use Rattle.proto_journal_records.specs.RecordText.{record_text}
use Rattle.proto_journal_records.specs.Journals.{IsJournalIn, is_last_open, journal_limit, journal_text}
use Rattle.proto_store.specs.Stores.{Held, with_file}
use Rattle.proto_journal_records.specs.Known.{OverBoth}
use Rattle.proto_journal_records.specs.ReadJournals.{IsReadyWith}
use Rattle.proto_journal_records.specs.Torn.{IsBetween}

-- ---- written

-- a store of these files and this journal
abbrev pub held : List FileOf → Text → Held
held files journal = record { files = files; journal = journal }

-- a store with these files in place of its own; the journal stays
abbrev pub with_these_files : List FileOf → Held → Held
with_these_files files h = record h { files = files }

-- files that differ at the paths of changes alone, where both are gone through together
abbrev pub DifferBy : List ChangeOf → List FileOf → List FileOf → Type 0
DifferBy cs [] [] = Unit {0}
DifferBy cs [] (g ∷ gs) = ⊥
DifferBy cs (f ∷ fs) [] = ⊥
DifferBy [] (f ∷ fs) (g ∷ gs) = (g ≡ f) × DifferBy [] fs gs
DifferBy (c ∷ cs) (f ∷ fs) (g ∷ gs) =
    ((c.path ≡ f.path) × (g.path ≡ f.path) × (g.profile ≡ f.profile) × DifferBy cs fs gs)
    ⊎ ((c.path ≢ f.path) × (g ≡ f) × DifferBy (c ∷ cs) fs gs)

-- a file gets its bytes of afterwards where the first of the changes is of its path, and the others
-- are left; else nothing is written, and all of them are left
abbrev pub IsFileReplaced : FileOf → FileOf → List ChangeOf → List ChangeOf
    → Option Held → Option Held → Type 0
IsFileReplaced from to [] rest old new = (rest ≡ []) × (new ≡ old)
IsFileReplaced from to (c ∷ cs) rest old new =
    ((c.path ≡ from.path) × (rest ≡ cs) × (new ≡ option_map (with_file to.path to.bytes) old))
    ⊎ ((c.path ≢ from.path) × (rest ≡ c ∷ cs) × (new ≡ old))

-- a write of a file failed: it has its old bytes or the new ones
abbrev pub IsHalfReplaced : FileOf → Option Held → Option Held → Type 0
IsHalfReplaced to old new = (new ≡ old) ⊎ (new ≡ option_map (with_file to.path to.bytes) old)

-- the journal is as it was, and each file is as before or as after
abbrev pub AreBetween : List FileOf → List FileOf → Option Held → Option Held → Type 0
AreBetween before after old new = OverBoth old new (λ then now.
    (now.journal ≡ then.journal) × IsBetween before after now.files)

-- as before the first write; between the files, with the
-- first text; or with the new files and the last text
abbrev pub Passes : List FileOf → List FileOf → Text → Text → Option Held → Option Held → Type 0
Passes before after first last old new = (new ≡ old)
    ⊎ (OverBoth old new (λ then now. (now.journal ≡ first) × IsBetween before after now.files)
    ⊎ (new ≡ option_map (λ h. held after last) old))

-- ---- made before

-- the bytes are a journal in this version of which no entry is open, and this is its last record,
-- where it has any
abbrev pub HasLast : Version → Text → Option RecordOf → Type 0
HasLast version journal None = IsJournalIn version journal []
HasLast version journal (Some last) = (records : List RecordOf)
    × IsJournalIn version journal (records ++ done last.edit last.entry ∷ [])

-- the text is that of a journal that is ready, in the second version
abbrev pub IsReadyText : Text → Held → Type 0
IsReadyText text held = (version : Version) × (records : List RecordOf)
    × IsReadyWith version records held × (text ≡ journal_text Second records)

-- the text is that of the same records, of a journal, and of one more record, in the second version
abbrev pub AddsTo : Text → RecordOf → Text → Type 0
AddsTo journal r text = (version : Version) (bytes : Text) (records : List RecordOf)
    → IsJournalIn version bytes records → is_last_open records ≡ false
    → journal ≡ journal_text Second records
    → IsJournalIn Second text (records ++ r ∷ [])

-- the text is this journal without its last record
abbrev pub Shortens : Text → Text → Type 0
Shortens journal text = (version : Version) (records : List RecordOf) (r : RecordOf)
    → IsJournalIn version journal (records ++ r ∷ []) → IsJournalIn version text records

-- the text is this journal with its last entry, which was done, open
abbrev pub Reopens : Version → Text → Option Asked → List ChangeOf → Text → Type 0
Reopens version journal edit entry text = (records : List RecordOf)
    → IsJournalIn version journal (records ++ done edit entry ∷ [])
    → IsJournalIn version text (records ++ opened edit entry ∷ [])

-- Why this journal is not written with an entry: it would pass the limit, or memory is wanting.
abbrev pub IsUnwritten : Text → Asked → List ChangeOf → JournalFault → Type 0
IsUnwritten journal e entry fault.JournalFull =
    journal_limit < length (journal ++ record_text Second (done (Some e) entry))
IsUnwritten journal e entry fault.NoMemory = Unit {0}
IsUnwritten journal e entry fault.BadJournal = ⊥
IsUnwritten journal e entry fault.NothingToUndo = ⊥
IsUnwritten journal e entry fault.OpenEntry = ⊥
IsUnwritten journal e entry fault.Store = ⊥
IsUnwritten journal e entry (fault.Refused r) = ⊥

-- Why a commit over this journal is not prepared: the edit is refused, or the journal with its
-- entry would pass the limit.
abbrev pub IsUnprepared : List FileOf → Asked → Text → JournalFault → Type 0
IsUnprepared from e journal fault.JournalFull =
    (entry : List ChangeOf) × (made : List FileOf) × IsMappedStep from e entry made
    × IsUnwritten journal e entry fault.JournalFull
IsUnprepared from e journal fault.NoMemory = Unit {0}
IsUnprepared from e journal fault.BadJournal = ⊥
IsUnprepared from e journal fault.NothingToUndo = ⊥
IsUnprepared from e journal fault.OpenEntry = ⊥
IsUnprepared from e journal fault.Store = ⊥
IsUnprepared from e journal (fault.Refused refusal.NoMemory) = ⊥
IsUnprepared from e journal (fault.Refused r) = IsRefusal from e r
