-- What a deletion, an added and a dropped import leave of linked files: each reference means what
-- it meant, and no fault of imports, names and references comes in.
use Rattle.std.specs.Prelude.{◌≡◌, ℕ, Bool, false, List}
use Rattle.std.specs.List.{Contains}
use Rattle.proto_base.specs.Texts.{Path}
use Rattle.proto_files.specs.Faults.{HasNoFault}
use Rattle.proto_files.specs.GivenFiles.{FileOf}
use Rattle.proto_files.specs.FilesRead.{ReadOf, AreRead}
use Rattle.proto_names_rules.specs.Names.{Reference, meaning}
use Rattle.proto_names_imports.specs.Links.{LinkFaults, names_of_files}
use Rattle.proto_edit_rules.specs.AddImport.{AdditionCase}
use Rattle.proto_edit_rules.specs.DropImport.{DropCase}
use Rattle.proto_edit_rules.specs.Statements.{IsPlaceOf}
use Rattle.proto_edit_statement_laws.specs.Clean.{AreClean}
use Rattle.proto_edit_statement_laws.specs.Files.{IsFieldLess, IsImportMore}

-- what the first files refer to means the same in both
abbrev pub MeanTheSame : List FileOf → List ReadOf → List FileOf → List ReadOf → Type 0
MeanTheSame files reads after seen = (r : Reference)
    → Contains (names_of_files files reads).references r
    → meaning (names_of_files after seen) r ≡ meaning (names_of_files files reads) r

-- ---- deletions

-- After the deletion of a field each reference that is left means what it meant,
abbrev pub DeletionsKeepMeanings : Type 0
DeletionsKeepMeanings =
    (files : List FileOf) (reads : List ReadOf) (after : List FileOf) (seen : List ReadOf)
    → AreClean files reads
    → IsFieldLess files reads after seen
    → MeanTheSame files reads after seen

-- and the files are linked.
abbrev pub DeletionsKeepLinks : Type 0
DeletionsKeepLinks =
    (files : List FileOf) (reads : List ReadOf) (after : List FileOf) (seen : List ReadOf)
    → AreClean files reads
    → AreRead after seen
    → IsFieldLess files reads after seen
    → HasNoFault (LinkFaults after)

-- ---- an import more, and one less

-- a change of the imports of the file of the one path by the other path
abbrev pub ImportChange : Type 1
ImportChange = List FileOf → List ReadOf → List FileOf → List ReadOf → Path → Path → Type 0

-- With such a change each reference means what it meant,
abbrev pub KeepMeanings : ImportChange → Type 0
KeepMeanings IsChanged =
    (files : List FileOf) (reads : List ReadOf) (after : List FileOf) (seen : List ReadOf)
    (file path : Path)
    → AreClean files reads
    → IsChanged files reads after seen file path
    → MeanTheSame files reads after seen

-- and the files are linked.
abbrev pub KeepLinks : ImportChange → Type 0
KeepLinks IsChanged =
    (files : List FileOf) (reads : List ReadOf) (after : List FileOf) (seen : List ReadOf)
    (file path : Path)
    → AreClean files reads
    → AreRead after seen
    → IsChanged files reads after seen file path
    → HasNoFault (LinkFaults after)

-- the file of the one path imports the other as well, and no case refuses it
pub record IsAdded
    (files : List FileOf) (reads : List ReadOf) (after : List FileOf) (seen : List ReadOf)
    (file path : Path) : Type 0 where
  pub from : ℕ
  pub place : IsPlaceOf files file from
  pub more : IsImportMore files reads after seen from path false
  pub free : (n : ℕ) → AdditionCase files reads file path n → ⊥

-- With an added import each reference means what it meant,
abbrev pub AdditionsKeepMeanings : Type 0
AdditionsKeepMeanings = KeepMeanings IsAdded

-- and the files are linked.
abbrev pub AdditionsKeepLinks : Type 0
AdditionsKeepLinks = KeepLinks IsAdded

-- the first files are the second with the import put in, which may be a public
-- one, and no case refuses to drop it
pub record IsDropped
    (files : List FileOf) (reads : List ReadOf) (after : List FileOf) (seen : List ReadOf)
    (file path : Path) : Type 0 where
  pub from : ℕ
  pub place : IsPlaceOf files file from
  pub is_public : Bool
  pub less : IsImportMore after seen files reads from path is_public
  pub free : (n : ℕ) → DropCase files reads file path n → ⊥

-- Without a dropped import each reference means what it meant,
abbrev pub DropsKeepMeanings : Type 0
DropsKeepMeanings = KeepMeanings IsDropped

-- and the files are linked.
abbrev pub DropsKeepLinks : Type 0
DropsKeepLinks = KeepLinks IsDropped
