-- The imports of given files, and those that files had before some were edited.
use Rattle.std.specs.Prelude.{◌≡◌, ℕ, ◌<◌, List, [], length, get_or}
use Rattle.proto_files.specs.FilesRead.{AreRead, ReadOf}
use Rattle.proto_files.specs.GivenFiles.{FileOf}
use Rattle.proto_names_imports.specs.Importing.{all_imports}
use Rattle.proto_names_imports.specs.Laws.{AreImportsOf}
use Rattle.proto_names_imports.specs.Links.{link_imports}
use Rattle.proto_names_imports.specs.declared.import.FileImport.{FileImport}
use Rattle.proto_names_update.specs.Edited.{AreSameBut}

-- the imports of each of the files at these places are those of its list
pub record AreImportsAt (files : List FileOf) (reads : List ReadOf) (places : List ℕ)
    (lists : List (List FileImport)) : Type 0 where
  pub each : (k : ℕ) → k < length places
      → AreImportsOf files reads (get_or places k 0) (get_or lists k [])

-- an import of one of the files at these places names no file, or a file again
pub record HasUnsoundImports (files : List FileOf) (reads : List ReadOf) (places : List ℕ)
    : Type 0 where
  pub at : ℕ
  pub within : at < length places
  pub unsound : (imports : List FileImport) → AreImportsOf files reads (get_or places at 0) imports
      → ⊥

-- one of the files at these places has not the imports that are given for it
pub record HasOtherImports (files : List FileOf) (reads : List ReadOf) (places : List ℕ)
    (given : List (List FileImport)) : Type 0 where
  pub at : ℕ
  pub within : at < length places
  pub other : AreImportsOf files reads (get_or places at 0) (get_or given (get_or places at 0) [])
      → ⊥

-- files before, and what was read of them: these files are the same but at these places, and the
-- imports of each were these
pub record WereImports (places : List ℕ) (files : List FileOf) (given : List (List FileImport))
    (before : List FileOf) (was : List ReadOf) : Type 0 where
  pub same : AreSameBut places before files
  pub were_read : AreRead before was
  pub imports : all_imports 0 given ≡ link_imports before was
