-- Laws of imports, for the layers above.
use Rattle.std.specs.Prelude.{◌≡◌, ◌⊎◌, ℕ, ◌<◌, List, [], length, get_or, map}
use Rattle.proto_files.specs.FilesRead.{ReadOf, read_at, AreRead}
use Rattle.proto_files.specs.GivenFiles.{FileOf, file_at, paths_of}
use Rattle.proto_names_outline.specs.FromTree.{imports_in}
use Rattle.proto_names_rules.specs.Cycles.{IsAcyclic}
use Rattle.proto_names_rules.specs.Faults.{Fault, AskedImport, ImportFault, imports_of}
use Rattle.proto_names_imports.specs.ImportSteps.{PathFault}
use Rattle.proto_names_imports.specs.Importing.{all_imports, import_from}
use Rattle.proto_names_imports.specs.Links.{text_of, asked_as, all_wanted, link_imports}
use Rattle.proto_names_imports.specs.declared.import.FileImport.{FileImport}

-- the imports of the file at a place, as they are written
abbrev pub wanted_by : List FileOf → List ReadOf → ℕ → List AskedImport
wanted_by files reads file =
    map (asked_as (text_of files reads) file) (imports_in (read_at reads file).tree)

-- the imports of the file at a place name the files that they named before, in the same order; each
-- names a file, and no two of them the same
pub record ImportsAsBefore (before : List FileOf) (had : List ReadOf) (files : List FileOf)
    (reads : List ReadOf) (file : ℕ) : Type 0 where
  pub same : imports_of (paths_of before) (wanted_by before had file)
      ≡ imports_of (paths_of files) (wanted_by files reads file)
  pub clean : (f : Fault) → PathFault (paths_of files) (wanted_by files reads file) f → ⊥

-- files at the same paths as before, each of them as it was, or with its imports as before
pub record KeepImports (before : List FileOf) (had : List ReadOf) (files : List FileOf)
    (reads : List ReadOf) : Type 0 where
  pub were_read : AreRead before had
  pub are_read : AreRead files reads
  pub paths : paths_of before ≡ paths_of files
  pub each : (file : ℕ) → file < length files
      → (file_at before file ≡ file_at files file) ⊎ ImportsAsBefore before had files reads file

-- no import of the files, as they are read, is faulty
abbrev pub HasSoundImports : List FileOf → List ReadOf → Type 0
HasSoundImports files reads =
    (f : Fault)
    → ImportFault (paths_of files) (all_wanted (text_of files reads) 0 reads) f → ⊥

-- Where files keep their imports, the imports between them are those of before.
abbrev pub KeptImportsAreEqual : Type 0
KeptImportsAreEqual =
    (before : List FileOf) (had : List ReadOf) (files : List FileOf) (reads : List ReadOf)
    → KeepImports before had files reads → link_imports before had ≡ link_imports files reads

-- And where no import was faulty, none is.
abbrev pub KeptImportsAreSound : Type 0
KeptImportsAreSound =
    (before : List FileOf) (had : List ReadOf) (files : List FileOf) (reads : List ReadOf)
    → KeepImports before had files reads
    → HasSoundImports before had → HasSoundImports files reads

-- ---- imports as lists, file by file

-- the imports of the file at a place are these; each names a file, and no two of them the same
pub record AreImportsOf (files : List FileOf) (reads : List ReadOf) (file : ℕ)
    (imports : List FileImport) : Type 0 where
  pub same : imports_of (paths_of files) (wanted_by files reads file)
      ≡ map (import_from file) imports
  pub clean : (f : Fault) → PathFault (paths_of files) (wanted_by files reads file) f → ⊥

-- for each of the files, which are read so, the list of its imports
pub record AreImportLists (files : List FileOf) (reads : List ReadOf)
    (lists : List (List FileImport)) : Type 0 where
  pub are_read : AreRead files reads
  pub count : length lists ≡ length files
  pub each : (file : ℕ) → file < length files
      → AreImportsOf files reads file (get_or lists file [])

-- The imports between the files are those of the lists.
abbrev pub ListedImportsAreThese : Type 0
ListedImportsAreThese =
    (files : List FileOf) (reads : List ReadOf) (lists : List (List FileImport))
    → AreImportLists files reads lists → all_imports 0 lists ≡ link_imports files reads

-- And where none leads back to its file, none is faulty.
abbrev pub ListedImportsAreSound : Type 0
ListedImportsAreSound =
    (files : List FileOf) (reads : List ReadOf) (lists : List (List FileImport))
    → AreImportLists files reads lists → IsAcyclic (all_imports 0 lists)
    → HasSoundImports files reads
