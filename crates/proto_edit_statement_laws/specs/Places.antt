-- Where an added import overtakes a reference, or a dropped one is needed, there is one least place
-- of such a reference; and it would mean something else.
use Rattle.std.specs.Prelude.{◌≡◌, ◌≢◌, ℕ, List}
use Rattle.proto_base.specs.Texts.{Path}
use Rattle.proto_case.specs.Camel.{entry_name}
use Rattle.proto_files.specs.GivenFiles.{FileOf}
use Rattle.proto_files.specs.FilesRead.{ReadOf}
use Rattle.proto_names_rules.specs.Grown.{At}
use Rattle.proto_names_rules.specs.Names.{meaning}
use Rattle.proto_names_rules.specs.Skeleton.{Used, reference_of}
use Rattle.proto_names_imports.specs.Links.{names_of_files, text_of}
use Rattle.proto_edit_rules.specs.AddImport.{AdditionCase, IsOvertakenAt, IsOvertakenIn, with_added}
use Rattle.proto_edit_rules.specs.DropImport.{DropCase, IsNeededAt, IsNeededIn, with_dropped}
use Rattle.proto_edit_statement_laws.specs.Clean.{AreClean}

-- With case 7 there is such a place,
abbrev pub OvertakenPlacesAreThere : Type 0
OvertakenPlacesAreThere = (files : List FileOf) (reads : List ReadOf) (file path : Path)
    → AdditionCase files reads file path 7
    → (place : Path) × (offset : ℕ) × IsOvertakenAt files reads file path place offset

-- and no two.
abbrev pub OvertakenPlacesAreOne : Type 0
OvertakenPlacesAreOne =
    (files : List FileOf) (reads : List ReadOf) (file path place other : Path) (offset at : ℕ)
    → IsOvertakenAt files reads file path place offset
    → IsOvertakenAt files reads file path other at
    → (place ≡ other) × (offset ≡ at)

-- Where case 15 refuses a drop, there is a least place where the import is needed,
abbrev pub NeededPlacesAreThere : Type 0
NeededPlacesAreThere = (files : List FileOf) (reads : List ReadOf) (file path : Path)
    → DropCase files reads file path 15
    → (place : Path) × (offset : ℕ) × IsNeededAt files reads file path place offset

-- and no two.
abbrev pub NeededPlacesAreOne : Type 0
NeededPlacesAreOne =
    (files : List FileOf) (reads : List ReadOf) (file path place other : Path) (offset at : ℕ)
    → IsNeededAt files reads file path place offset
    → IsNeededAt files reads file path other at
    → (place ≡ other) × (offset ≡ at)

-- A reference that the added import overtakes would mean something else with it.
abbrev pub OvertakenMeansElse : Type 0
OvertakenMeansElse = (files : List FileOf) (reads : List ReadOf) (k to : ℕ) (u : Used At)
    → AreClean files reads
    → IsOvertakenIn files reads k to u
    → meaning (with_added files reads k to) (reference_of (text_of files reads) entry_name u)
    ≢ meaning (names_of_files files reads) (reference_of (text_of files reads) entry_name u)

-- A reference that needs the dropped import would mean something else without it.
abbrev pub NeededMeansElse : Type 0
NeededMeansElse = (files : List FileOf) (reads : List ReadOf) (k : ℕ) (path : Path) (u : Used At)
    → AreClean files reads
    → IsNeededIn files reads k path u
    → meaning (with_dropped files reads k path) (reference_of (text_of files reads) entry_name u)
    ≢ meaning (names_of_files files reads) (reference_of (text_of files reads) entry_name u)
