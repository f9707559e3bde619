-- A deleted field, an added and a dropped import over the files of a workspace: the case that
-- refuses each, and what each changes.
use Rattle.std.specs.Prelude.{◌≡◌, ℕ, ◌<◌, ◌^◌, List, string_bytes}
use Rattle.proto_base.specs.Texts.{Path, Text}
use Rattle.proto_files.specs.FilesRead.{ReadOf, AreRead}
use Rattle.proto_files.specs.GivenFiles.{FileOf}
use Rattle.proto_edit_entries.specs.declared.refusal.Refusal.{Refusal}
use Rattle.proto_edit_entries.specs.declared.refusal.Refusal.TheVariants as refusal
use Rattle.proto_edit_entries.specs.Entries.{ChangeOf}
use Rattle.proto_edit_entries.specs.RefusalTable.{refusal_number}
use Rattle.proto_tree.specs.declared.tree.Import.{Import}
use Rattle.proto_edit_rules.specs.DeleteField.{FieldAt, IsField, IsFieldAt, IsFieldWord, changes_of_deletion, field_number_value, IsFieldNamed, RefusesDeletion}
use Rattle.proto_edit_rules.specs.DropImport.{IsImportOf, changes_of_drop, DropCase, IsNeededAt}
use Rattle.proto_edit_rules.specs.Options.{IsFirstToken}
use Rattle.proto_edit_rules.specs.Rename.{Target}
use Rattle.proto_edit_rules.specs.AddImport.{changes_of_addition, IsOvertakenAt, RefusesAddition}
use Rattle.proto_edit_rules.specs.Statements.{IsPlaceOf}

-- the least of some cases
pub record IsLeastOf (Says : ℕ → Type 0) (n : ℕ) : Type 0 where
  pub is : Says n
  pub least : (k : ℕ) → k < n → Says k → ⊥

-- some reading of the files
abbrev pub SomeReading : List FileOf → (List ReadOf → Type 0) → Type 0
SomeReading files P = (reads : List ReadOf) × AreRead files reads × P reads

-- ---- a field deleted

-- the case of this number refuses the deletion of the field of this name
abbrev pub IsDeletionCase : List FileOf → Text → ℕ → Type 0
IsDeletionCase files name n = SomeReading files (λ reads. RefusesDeletion files reads name n)

-- the path and offset of the least word of an option that may stand for the field
abbrev pub IsFieldWordAt : List FileOf → Text → Path → ℕ → Type 0
IsFieldWordAt files name path offset = SomeReading files (λ reads.
    (t : Target) × IsField files reads name t
    × IsFirstToken files reads (IsFieldWord files reads t) path offset)

-- the least case, with its place where a word of an option may stand for the field; out of memory
-- may be answered instead
abbrev pub IsDeletionRefusal : List FileOf → Text → Refusal → Type 0
IsDeletionRefusal files name refusal.NoMemory = Unit {0}
IsDeletionRefusal files name (refusal.Captured path offset) = ⊥
IsDeletionRefusal files name (refusal.Needed path offset) = ⊥
IsDeletionRefusal files name (refusal.OptionValue path offset) =
    IsLeastOf (IsDeletionCase files name) 19
    × IsFieldWordAt files name (string_bytes path) offset
IsDeletionRefusal files name r = IsLeastOf (IsDeletionCase files name) (refusal_number r)

-- no case refuses it, and these are the changes
pub record HasDeletionChanges (files : List FileOf) (name : Text)
    (cs : List ChangeOf) : Type 0 where
  pub admissible : (n : ℕ) → IsDeletionCase files name n → ⊥
  pub changes : SomeReading files (λ reads.
      (f : FieldAt) × IsFieldNamed files reads name f × (cs ≡ changes_of_deletion files reads f))

-- the number of each field is below 2^64, as in files that compile
abbrev pub HaveSmallNumbers : List FileOf → Type 0
HaveSmallNumbers files = (reads : List ReadOf)
    → AreRead files reads
    → (f : FieldAt)
    → IsFieldAt files reads f
    → field_number_value files reads f < 2 ^ 64

-- ---- an import added

-- the case of this number refuses that the file imports the path
abbrev pub IsAdditionCase : List FileOf → Path → Path → ℕ → Type 0
IsAdditionCase files file path n =
    SomeReading files (λ reads. RefusesAddition files reads file path n)

-- the least case, with its place where a reference is overtaken
abbrev pub IsAdditionRefusal : List FileOf → Path → Path → Refusal → Type 0
IsAdditionRefusal files file path refusal.NoMemory = Unit {0}
IsAdditionRefusal files file path (refusal.Captured place offset) =
    IsLeastOf (IsAdditionCase files file path) 7
    × SomeReading files (λ reads. IsOvertakenAt files reads file path (string_bytes place) offset)
IsAdditionRefusal files file path (refusal.Needed place offset) = ⊥
IsAdditionRefusal files file path (refusal.OptionValue place offset) = ⊥
IsAdditionRefusal files file path r = IsLeastOf (IsAdditionCase files file path) (refusal_number r)

-- no case refuses it, and these are the changes
pub record HasAdditionChanges (files : List FileOf) (file path : Path)
    (cs : List ChangeOf) : Type 0 where
  pub admissible : (n : ℕ) → IsAdditionCase files file path n → ⊥
  pub changes : SomeReading files
      (λ reads. (k : ℕ) × IsPlaceOf files file k × (cs ≡ changes_of_addition files reads k path))

-- ---- an import dropped

-- the case of this number refuses that the file imports the path no longer
abbrev pub IsDropCase : List FileOf → Path → Path → ℕ → Type 0
IsDropCase files file path n = SomeReading files (λ reads. DropCase files reads file path n)

-- the least case, with its place where the import is needed
abbrev pub IsDropRefusal : List FileOf → Path → Path → Refusal → Type 0
IsDropRefusal files file path refusal.NoMemory = Unit {0}
IsDropRefusal files file path (refusal.Captured place offset) = ⊥
IsDropRefusal files file path (refusal.OptionValue place offset) = ⊥
IsDropRefusal files file path (refusal.Needed place offset) =
    IsLeastOf (IsDropCase files file path) 15
    × SomeReading files (λ reads. IsNeededAt files reads file path (string_bytes place) offset)
IsDropRefusal files file path r = IsLeastOf (IsDropCase files file path) (refusal_number r)

-- no case refuses it, and these are the changes
pub record HasDropChanges (files : List FileOf) (file path : Path)
    (cs : List ChangeOf) : Type 0 where
  pub admissible : (n : ℕ) → IsDropCase files file path n → ⊥
  pub changes : SomeReading files (λ reads. (k : ℕ) × (i : Import) × IsPlaceOf files file k
      × IsImportOf files reads k path i × (cs ≡ changes_of_drop files reads k i))
