-- A workspace under edits: when an edit is refused, what it changes, what it leaves, and runs of
-- edits. What is particular to an edit is said by cases on the edit, over the files and what is
-- read of them; all else speaks of changes, and of no edit.
use Rattle.std.specs.Prelude.{◌≡◌, ◌≢◌, ℕ, ◌<◌, List, [], ◌∷◌, Result, Ok, Err, string_bytes}
use Rattle.proto_base.specs.Texts.{Path}
use Rattle.proto_files.specs.FilesRead.{ReadOf, AreRead}
use Rattle.proto_files.specs.GivenFiles.{FileOf}
use Rattle.proto_descriptors.specs.Descriptors.{FileDesc}
use Rattle.proto_desc.specs.Checked.{AreDescribed}
use Rattle.proto_edit_entries.specs.declared.refusal.Refusal.{Refusal}
pub use Rattle.proto_edit_entries.specs.EditsAsked.{Asked, rename, delete_field, add_import, drop_import}
use Rattle.proto_edit_entries.specs.Entries.{ChangeOf, inverted}
use Rattle.proto_edit_entries.specs.Putting.{IsPut}
use Rattle.proto_edit_entries.specs.RefusalTable.{refusal_number}
use Rattle.proto_edit_entries.specs.declared.refusal.Refusal.TheVariants as refusal
use Rattle.proto_edit_rules.specs.Options.{IsFirstToken}
use Rattle.proto_edit_rules.specs.Rename.{Captures, IsFirstPlace, IsValueWord, RenameCase, changes_of_words, Target, IsNamed, renamed_words, AreRenamed}
use Rattle.proto_edit_rules.specs.DeleteField.{FieldAt, IsField, IsFieldWord, changes_of_deletion, mapped_deletion, IsFieldNamed, RefusesDeletion}
use Rattle.proto_edit_rules.specs.DropImport.{IsImportOf, changes_of_drop, without_dependency, DropCase, IsNeededAt}
use Rattle.proto_edit_rules.specs.AddImport.{changes_of_addition, with_dependency, RefusesAddition, IsOvertakenAt}
use Rattle.proto_edit_rules.specs.Statements.{tree_at, changed_at, IsPlaceOf as IsFileAt}
use Rattle.proto_tree.specs.declared.tree.Import.{Import}
use Rattle.proto_edit.specs.Compiled.{AreCompiled}

-- ---- the cases that refuse an edit

-- of a rename, a deletion, an added and a dropped import
abbrev pub CaseOf : List FileOf → List ReadOf → Asked → ℕ → Type 0
CaseOf files reads (rename name to) n = RenameCase files reads name to n
CaseOf files reads (delete_field name) n = RefusesDeletion files reads name n
CaseOf files reads (add_import file path) n = RefusesAddition files reads file path n
CaseOf files reads (drop_import file path) n = DropCase files reads file path n

-- case n holds
abbrev pub IsCase : List FileOf → Asked → ℕ → Type 0
IsCase w e n = (reads : List ReadOf) × AreRead w reads × CaseOf w reads e n

-- case n holds, and none before it
pub record IsLeastCase (w : List FileOf) (e : Asked) (n : ℕ) : Type 0 where
  pub is : IsCase w e n
  pub least : (k : ℕ) → k < n → IsCase w e k → ⊥

-- no case holds
abbrev pub IsAdmissible : List FileOf → Asked → Type 0
IsAdmissible w e = (n : ℕ) → IsCase w e n → ⊥

-- the path and offset that are answered with the case: of the least reference that is captured, by
-- a rename or by an added import, or that needs a dropped one
abbrev pub PlaceOf : List FileOf → List ReadOf → Asked → Path → ℕ → Type 0
PlaceOf files reads (rename name to) path offset = (t : Target) × IsNamed files reads name t
    × IsFirstPlace files reads (Captures files reads t to) path offset
PlaceOf files reads (delete_field name) path offset = ⊥
PlaceOf files reads (add_import file imported) path offset =
    IsOvertakenAt files reads file imported path offset
PlaceOf files reads (drop_import file imported) path offset =
    IsNeededAt files reads file imported path offset

-- the path and offset that are answered with 19: of the least word of an option that may stand for
-- what is renamed or deleted
abbrev pub WordPlaceOf : List FileOf → List ReadOf → Asked → Path → ℕ → Type 0
WordPlaceOf files reads (rename name to) path offset = (t : Target) × IsNamed files reads name t
    × IsFirstToken files reads (IsValueWord files reads t to) path offset
WordPlaceOf files reads (delete_field name) path offset = (t : Target) × IsField files reads name t
    × IsFirstToken files reads (IsFieldWord files reads t) path offset
WordPlaceOf files reads (add_import file imported) path offset = ⊥
WordPlaceOf files reads (drop_import file imported) path offset = ⊥

-- this path and offset are answered with case 19
abbrev pub IsWordAt : List FileOf → Asked → Path → ℕ → Type 0
IsWordAt w e path offset = (reads : List ReadOf) × AreRead w reads
    × WordPlaceOf w reads e path offset

-- this path and offset are answered with the case
abbrev pub IsCaseAt : List FileOf → Asked → Path → ℕ → Type 0
IsCaseAt w e path offset = (reads : List ReadOf) × AreRead w reads × PlaceOf w reads e path offset

-- The least case, with its place where one is answered; out of memory may be answered instead.
abbrev pub IsRefusal : List FileOf → Asked → Refusal → Type 0
IsRefusal w e refusal.NoMemory = Unit {0}
IsRefusal w e (refusal.Captured path offset) =
    IsLeastCase w e 7 × IsCaseAt w e (string_bytes path) offset
IsRefusal w e (refusal.Needed path offset) =
    IsLeastCase w e 15 × IsCaseAt w e (string_bytes path) offset
IsRefusal w e (refusal.OptionValue path offset) =
    IsLeastCase w e 19 × IsWordAt w e (string_bytes path) offset
IsRefusal w e r = IsLeastCase w e (refusal_number r)

-- ---- what an edit changes

-- the changes of an edit: of a rename, those of its new words; of another edit, its one splice
abbrev pub ChangesOf : List FileOf → List ReadOf → Asked → List ChangeOf → Type 0
ChangesOf files reads (rename name to) cs = (t : Target) × IsNamed files reads name t
    × (cs ≡ changes_of_words (renamed_words files reads t to) files reads)
ChangesOf files reads (delete_field name) cs = (f : FieldAt) × IsFieldNamed files reads name f
    × (cs ≡ changes_of_deletion files reads f)
ChangesOf files reads (add_import file path) cs = (k : ℕ) × IsFileAt files file k
    × (cs ≡ changes_of_addition files reads k path)
ChangesOf files reads (drop_import file path) cs = (k : ℕ) × (i : Import)
    × IsFileAt files file k × IsImportOf files reads k path i
    × (cs ≡ changes_of_drop files reads k i)

-- these are the changes of the edit
abbrev pub AreChanges : List FileOf → Asked → List ChangeOf → Type 0
AreChanges w e cs = (reads : List ReadOf) × AreRead w reads × ChangesOf w reads e cs

-- ---- what an edit leaves

-- the descriptors under the edit's map: of a rename, its name map; of another edit, the old ones
-- with that of the one file changed
abbrev pub Maps : List FileOf → List ReadOf → Asked → List FileDesc → List FileDesc → Type 0
Maps files reads (rename name to) ds new = (t : Target) × IsNamed files reads name t
    × AreRenamed files reads t to ds new
Maps files reads (delete_field name) ds new = (f : FieldAt) × IsFieldNamed files reads name f
    × (new ≡ changed_at f.file (mapped_deletion f.name (tree_at reads f.file)) ds)
Maps files reads (add_import file path) ds new = (k : ℕ) × IsFileAt files file k
    × (new ≡ changed_at k (with_dependency path) ds)
Maps files reads (drop_import file path) ds new = (k : ℕ) × IsFileAt files file k
    × (new ≡ changed_at k (without_dependency path) ds)

-- the second descriptors are the first under the edit's map
abbrev pub AreMapped : List FileOf → Asked → List FileDesc → List FileDesc → Type 0
AreMapped w e ds new = (reads : List ReadOf) × AreRead w reads × Maps w reads e ds new

-- ---- one edit

-- an edit that no case refuses, its changes, and the files with these
pub record IsStep
    (w : List FileOf) (e : Asked) (cs : List ChangeOf) (after : List FileOf) : Type 0 where
  pub admissible : IsAdmissible w e
  pub changes : AreChanges w e cs
  pub put : IsPut w cs after

-- an accepted edit, which leaves what compiles, and to the old descriptors under its map
pub record IsMappedStep
    (w : List FileOf) (e : Asked) (cs : List ChangeOf) (after : List FileOf) : Type 0 where
  pub step : IsStep w e cs after
  pub compiled : AreCompiled after
  pub described : (ds new : List FileDesc) → AreDescribed w ds → AreDescribed after new
      → AreMapped w e ds new

-- ---- runs

-- a run: what is answered to each edit, and the files at the end
abbrev pub Run : List FileOf → List Asked → List (Result (List ChangeOf) Refusal) → List FileOf
    → Type 0
Run w [] [] to = w ≡ to
Run w [] (a ∷ more) to = ⊥
Run w (e ∷ es) [] to = ⊥
Run w (e ∷ es) (Err r ∷ more) to = IsRefusal w e r × (r ≢ refusal.NoMemory) × Run w es more to
Run w (e ∷ es) (Ok cs ∷ more) to =
    (middle : List FileOf) × IsMappedStep w e cs middle × Run middle es more to

-- the entries of the accepted edits, in order
abbrev pub accepted : List (Result (List ChangeOf) Refusal) → List (List ChangeOf)
accepted [] = []
accepted (Err r ∷ more) = accepted more
accepted (Ok cs ∷ more) = cs ∷ accepted more

-- the files before an entry, which compile
pub record IsUndo (w : List FileOf) (cs : List ChangeOf) (before : List FileOf) : Type 0 where
  pub put : IsPut w (inverted cs) before
  pub compiled : AreCompiled before

-- undoing entries, in the order given
abbrev pub Undone : List FileOf → List (List ChangeOf) → List FileOf → Type 0
Undone w [] to = w ≡ to
Undone w (s ∷ ss) to = (middle : List FileOf) × IsUndo w s middle × Undone middle ss to
