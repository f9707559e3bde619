-- The imports of files and what each file sees, before some are edited and now.
use Rattle.std.specs.Prelude.{◌≡◌, ◌⊎◌, ℕ, ◌<◌, Bool, false, List, [], length, get_or, map}
use Rattle.std.specs.List.{Contains, filter}
use Rattle.proto_files.specs.FilesRead.{AreRead, ReadOf}
use Rattle.proto_files.specs.GivenFiles.{FileOf}
use Rattle.proto_names_imports.specs.Importing.{all_imports}
use Rattle.proto_names_imports.specs.Links.{link_imports, names_of_files}
use Rattle.proto_names_imports.specs.declared.import.FileImport.{FileImport}
use Rattle.proto_names_rules.specs.Linked.{ImportsAreOfFiles}
use Rattle.proto_names_rules.specs.Marks.{MarksSeen}
use Rattle.proto_names_update.specs.Edited.{AreSameBut}
use Rattle.proto_names_update.specs.Relinked.{NoImportIsFaulty}

-- for each file, its imports
pub record AreLinkImports (files : List FileOf) (reads : List ReadOf)
    (imports : List (List FileImport)) : Type 0 where
  pub count : length imports ≡ length files
  pub same : all_imports 0 imports ≡ link_imports files reads

-- no import of the files is faulty, and for each file these are the marks of the files that it sees
pub record IsSightOf (files : List FileOf) (reads : List ReadOf) (seen : List (List Bool))
    : Type 0 where
  pub sound : NoImportIsFaulty files reads
  pub between : ImportsAreOfFiles (names_of_files files reads)
  pub count : length seen ≡ length files
  pub marks : (file : ℕ) → file < length files
      → MarksSeen (names_of_files files reads) file (get_or seen file [])

-- these were the imports and the marks of files of which these are the same but at these places
pub record WasSight (places : List ℕ) (files : List FileOf) (imports : List (List FileImport))
    (seen : List (List Bool)) : Type 0 where
  pub before : List FileOf
  pub was : List ReadOf
  pub same : AreSameBut places before files
  pub were_read : AreRead before was
  pub listed : AreLinkImports before was imports
  pub sight : IsSightOf before was seen

-- the files that these imports name publicly, in their order
abbrev pub public_files : List FileImport → List ℕ
public_files is = map (λ i. i.to) (filter (λ i. i.is_public) is)

-- a file that sees what is marked is at none of these places; and where one at these places now has
-- these imports, for each place in order, it names the same files publicly as before, or this file
-- does not see it
pub record KeepsSight (places : List ℕ) (before now : List (List FileImport)) (marks : List Bool)
    (file : ℕ) : Type 0 where
  pub apart : Contains places file → ⊥
  pub each : (k : ℕ) → k < length places
      → (public_files (get_or before (get_or places k 0) []) ≡ public_files (get_or now k []))
      ⊎ (get_or marks (get_or places k 0) false ≡ false)

-- the marks of all files but these are as they were
abbrev pub StayBut : List ℕ → List (List Bool) → List (List Bool) → Type 0
StayBut others before now =
    (file : ℕ) → (Contains others file → ⊥) → get_or now file [] ≡ get_or before file []
