-- Files of which some are edited.
use Rattle.std.specs.Prelude.{◌≡◌, ℕ, ◌<◌, List, length}
use Rattle.std.specs.List.{Contains}
use Rattle.proto_files.specs.FilesRead.{AreRead, ReadOf}
use Rattle.proto_files.specs.GivenFiles.{FileOf, file_at, paths_of}
use Rattle.proto_names_imports.specs.Links.{names_of_files}
use Rattle.proto_names_rules.specs.Kept.{DifferAt}

-- the files have the paths of those before, and the bytes too but at these places
pub record AreSameBut (places : List ℕ) (before files : List FileOf) : Type 0 where
  pub paths : paths_of before ≡ paths_of files
  pub others : (file : ℕ) → file < length files → (Contains places file → ⊥)
      → file_at before file ≡ file_at files file

-- files before, with what is read of them, and now
pub record AreEdited (places : List ℕ) (before : List FileOf) (was : List ReadOf)
    (files : List FileOf) (reads : List ReadOf) : Type 0 where
  pub same : AreSameBut places before files
  pub were_read : AreRead before was
  pub are_read : AreRead files reads

-- what the other files declare and refer to is the same
abbrev pub EditedFilesDiffer : Type 0
EditedFilesDiffer =
    (places : List ℕ) (before : List FileOf) (was : List ReadOf)
    → (files : List FileOf) (reads : List ReadOf) → AreEdited places before was files reads
    → DifferAt places (names_of_files before was) (names_of_files files reads)
