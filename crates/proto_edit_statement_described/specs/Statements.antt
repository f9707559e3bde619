-- Which statement imports a path, where no case refuses an added or a dropped import: there is one.
use Rattle.std.specs.Prelude.{◌≡◌, ℕ, List}
use Rattle.proto_base.specs.Texts.{Path}
use Rattle.proto_files.specs.Faults.{HasNoFault}
use Rattle.proto_files.specs.FilesRead.{AreRead, ReadOf}
use Rattle.proto_files.specs.GivenFiles.{FileOf}
use Rattle.proto_names_imports.specs.Links.{LinkFaults}
use Rattle.proto_tree.specs.declared.tree.Import.{Import}
use Rattle.proto_edit_rules.specs.DropImport.{IsImportOf, DropCase}
use Rattle.proto_edit_rules.specs.AddImport.{AdditionCase}
use Rattle.proto_edit_rules.specs.Statements.{IsPlaceOf}

-- A file that may get an import is there.
abbrev pub FilesAreThere : Type 0
FilesAreThere = (files : List FileOf) (reads : List ReadOf) (file path : Path)
    → ((n : ℕ) → AdditionCase files reads file path n → ⊥)
    → (place : ℕ) × IsPlaceOf files file place

-- A file of which an import may be dropped is there, and the import,
abbrev pub ImportsAreThere : Type 0
ImportsAreThere = (files : List FileOf) (reads : List ReadOf) (file path : Path)
    → AreRead files reads
    → ((n : ℕ) → DropCase files reads file path n → ⊥)
    → (place : ℕ) × (i : Import) × IsPlaceOf files file place × IsImportOf files reads place path i

-- and it is one.
abbrev pub ImportsAreOne : Type 0
ImportsAreOne =
    (files : List FileOf) (reads : List ReadOf) (path : Path) (place : ℕ) (i j : Import)
    → AreRead files reads
    → HasNoFault (LinkFaults files)
    → IsImportOf files reads place path i
    → IsImportOf files reads place path j
    → i ≡ j
