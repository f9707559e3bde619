-- Which files are put back, and how a store gets them.
use Rattle.std.specs.Prelude.{◌≡◌, ◌⊎◌, ℕ, List, [], ◌∷◌, ◌++◌, take, is_some, Bool, Option, Some, None, Result, Ok, Err, option_map}
use Rattle.std.specs.Global.{Vec}
use Rattle.std.specs.List.{Contains, list_any}
use Rattle.std.specs.Str.{bytes_eq}
use Rattle.proto_base.specs.Texts.{Path, Text}
use Rattle.proto_text.specs.Edits.{Puts}
use Rattle.proto_files.specs.GivenFiles.{FileOf}
use Rattle.proto_edit_entries.specs.EditsAsked.{Asked}
use Rattle.proto_edit_entries.specs.Entries.{ChangeOf, turned_round}
use Rattle.proto_edit_entries.specs.declared.refusal.Refusal.TheVariants as refusal
use Rattle.proto_journal_records.specs.declared.fault.JournalFault.{JournalFault}
use Rattle.proto_journal_records.specs.declared.fault.JournalFault.TheVariants as fault
use Rattle.proto_journal_records.specs.declared.record.Version.{Version}
use Rattle.proto_journal_records.specs.Records.{RecordOf, opened}
use Rattle.proto_journal_records.specs.Journals.{IsJournal, IsJournalIn, is_last_open}
use Rattle.proto_store.specs.Stores.{Held, IsListed, bytes_at, with_bytes}
use Rattle.proto_journal_records.specs.Known.{Over}
use Rattle.proto_journal_records.specs.Torn.{IsAsAfter, IsAsBefore}

-- ---- the open entry

-- the last entry of a journal where it is open, or none where no entry is; or why there is neither
abbrev pub OpenOutcome : Text → Result (Option (List ChangeOf)) JournalFault → Type 0
OpenOutcome journal (Ok (Some entry)) =
    (version : Version) × (records : List RecordOf) × (edit : Option Asked)
    × IsJournalIn version journal (records ++ opened edit entry ∷ [])
OpenOutcome journal (Ok None) =
    (records : List RecordOf) × IsJournal journal records × (is_last_open records ≡ Bool.false)
OpenOutcome journal (Err fault.BadJournal) =
    (records : List RecordOf) → IsJournal journal records → ⊥
OpenOutcome journal (Err fault.NoMemory) = Unit {0}
OpenOutcome journal (Err _) = ⊥

-- ---- which files

-- the paths are those of the files
abbrev pub IsAskedFor : List Path → List FileOf → Type 0
IsAskedFor paths files =
    (path : Path) → list_any (bytes_eq path) paths ≡ is_some (bytes_at path files)

-- the text that a file gets where it is as after its change; none where it is as before it
abbrev pub IsOldText : ChangeOf → Text → Option (Vec ℕ) → Type 0
IsOldText c text None = IsAsBefore c text
IsOldText c text (Some old) =
    IsAsAfter c text × Puts 0 text (turned_round c).splices old.items

-- the file of a change is as before it
pub record StaysAt (c : ChangeOf) (files : List FileOf) : Type 0 where
  pub text : Text
  pub there : bytes_at c.path files ≡ Some text
  pub before : IsAsBefore c text

-- the file of a change is as after it, and this is the file before it
pub record GoesBackTo (c : ChangeOf) (files : List FileOf) (f : FileOf) : Type 0 where
  pub path : f.path ≡ c.path
  pub text : Text
  pub there : bytes_at c.path files ≡ Some text
  pub after : IsAsAfter c text
  pub puts : Puts 0 text (turned_round c).splices f.bytes

-- what is put in place of the file of a change, if anything
abbrev pub IsOldFile : ChangeOf → List FileOf → Option FileOf → Type 0
IsOldFile c files None = StaysAt c files
IsOldFile c files (Some f) = GoesBackTo c files f

-- what is put in place of the files of changes, in their order
abbrev pub AreOldFiles : List ChangeOf → List FileOf → List FileOf → Type 0
AreOldFiles [] files olds = olds ≡ []
AreOldFiles (c ∷ cs) files olds = (StaysAt c files × AreOldFiles cs files olds)
    ⊎ ((f : FileOf) × (rest : List FileOf) × (olds ≡ f ∷ rest)
    × GoesBackTo c files f × AreOldFiles cs files rest)

-- behind these files come those that are put in place of the files of changes
abbrev pub AddsOldFiles : List ChangeOf → Option Held → List FileOf → List FileOf → Type 0
AddsOldFiles cs held before after = (olds : List FileOf) × (after ≡ before ++ olds)
    × Over held (λ h. AreOldFiles cs h.files olds)

-- the text is neither as before a change nor as after it; beside that only memory may run out
abbrev pub IsNeither : ChangeOf → Text → JournalFault → Type 0
IsNeither c text fault.NoMemory = Unit {0}
IsNeither c text (fault.Refused refusal.Stale) =
    (IsAsBefore c text → ⊥) × (IsAsAfter c text → ⊥)
IsNeither c text _ = ⊥

-- a refusal comes for staleness alone, which is this;
-- beside it the store may fail and memory run out
abbrev pub IsStaleOnly : Type 0 → JournalFault → Type 0
IsStaleOnly stale fault.Store = Unit {0}
IsStaleOnly stale fault.NoMemory = Unit {0}
IsStaleOnly stale (fault.Refused refusal.Stale) = stale
IsStaleOnly stale _ = ⊥

-- ---- how a store gets them

-- the files with these in their places, one after the other
abbrev pub with_all : List FileOf → List FileOf → List FileOf
with_all [] files = files
with_all (f ∷ fs) files = with_all fs (with_bytes f.path f.bytes files)

-- what a store holds, with these files in their places; the journal stays
abbrev pub with_files : List FileOf → Held → Held
with_files fs held = record held { files = with_all fs held.files }

-- a file of the store stands at the path of each of these
abbrev pub AreListedInStore : Option Held → List FileOf → Type 0
AreListedInStore held fs = (f : FileOf) → Contains fs f → IsListed held f.path

-- the first of these files are in their places
abbrev pub ArePartlyIn : List FileOf → Option Held → Option Held → Type 0
ArePartlyIn fs old new = (n : ℕ) × (new ≡ option_map (with_files (take n fs)) old)
