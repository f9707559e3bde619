-- An import added to a file of a workspace without a fault, and one dropped: the files then.
use Rattle.std.specs.Prelude.{◌≡◌, ℕ, List}
use Rattle.proto_base.specs.Texts.{Path}
use Rattle.proto_files.specs.Faults.{HasNoFault}
use Rattle.proto_files.specs.FilesRead.{ReadOf}
use Rattle.proto_files.specs.GivenFiles.{FileOf, file_at}
use Rattle.proto_names_imports.specs.Links.{LinkFaults}
use Rattle.proto_descriptors.specs.Descriptors.{FileDesc}
use Rattle.proto_edit_statement_described.specs.Checked.{AreDescribed, CheckFaults}
use Rattle.proto_edit_entries.specs.Entries.{ChangeOf, IsEntry}
use Rattle.proto_edit_entries.specs.Putting.{IsPut}
use Rattle.proto_tree.specs.declared.tree.Import.{Import}
use Rattle.proto_edit_rules.specs.DropImport.{IsImportOf, changes_of_drop, DropCase, without_dependency}
use Rattle.proto_edit_rules.specs.AddImport.{changes_of_addition, splice_of_addition, AdditionCase, with_dependency}
use Rattle.proto_edit_statement_laws.specs.OneFile.{AreFiles}
use Rattle.proto_edit_rules.specs.Statements.{IsTooLong, IsPlaceOf, changed_at}

-- files of a workspace that are read so, and have no fault of links and checks
pub record AreFaultless (files : List FileOf) (reads : List ReadOf) : Type 0 where
  pub are : AreFiles files reads
  pub links : HasNoFault (LinkFaults files)
  pub checks : HasNoFault (CheckFaults files)

-- The changes are an entry and put files without a fault, of whose descriptors that of the file at
-- this place is the old one, mapped, and the others are the old ones.
pub record IsMade
    (files : List FileOf) (cs : List ChangeOf) (place : ℕ) (mapped : FileDesc → FileDesc)
    (after : List FileOf) (seen : List ReadOf) : Type 0 where
  pub entry : IsEntry cs
  pub put : IsPut files cs after
  pub faultless : AreFaultless after seen
  pub described : (ds new : List FileDesc)
      → AreDescribed files ds
      → AreDescribed after new
      → new ≡ changed_at place mapped ds

-- ---- an import added

-- no case refuses that the file of the one path imports the other,
-- and the file would not be too long
pub record MayAdd
    (files : List FileOf) (reads : List ReadOf) (file path : Path) (place : ℕ) : Type 0 where
  pub faultless : AreFaultless files reads
  pub at : IsPlaceOf files file place
  pub free : (n : ℕ) → AdditionCase files reads file path n → ⊥
  pub short : IsTooLong (file_at files place) (splice_of_addition files reads place path) → ⊥

-- An added import that no case refuses can be made, and its file's descriptor has the path as well.
abbrev pub AdditionsAreMade : Type 0
AdditionsAreMade = (files : List FileOf) (reads : List ReadOf) (file path : Path) (place : ℕ)
    → MayAdd files reads file path place
    → (after : List FileOf) × (seen : List ReadOf)
    × IsMade files (changes_of_addition files reads place path) place (with_dependency path) after
    seen

-- ---- an import dropped

-- no case refuses that the file of the one path imports the other no more,
-- and this is the statement that does
pub record MayDrop
    (files : List FileOf) (reads : List ReadOf) (file path : Path) (place : ℕ) (i : Import)
    : Type 0 where
  pub faultless : AreFaultless files reads
  pub at : IsPlaceOf files file place
  pub imports : IsImportOf files reads place path i
  pub free : (n : ℕ) → DropCase files reads file path n → ⊥

-- A dropped import that no case refuses can be made, and its file's descriptor loses the path.
abbrev pub DropsAreMade : Type 0
DropsAreMade =
    (files : List FileOf) (reads : List ReadOf) (file path : Path) (place : ℕ) (i : Import)
    → MayDrop files reads file path place i
    → (after : List FileOf) × (seen : List ReadOf)
    × IsMade files (changes_of_drop files reads place i) place (without_dependency path) after seen
