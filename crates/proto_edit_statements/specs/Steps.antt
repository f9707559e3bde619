-- The steps of an added and of a dropped import.
use Rattle.std.specs.Prelude.{◌≡◌, ℕ, ◌<◌, Bool, false, not, List, [], length, map, get_or, Option, Some, None, option_map, slice_index_or, string_bytes}
use Rattle.std.specs.Global.{Vec}
use Rattle.std.specs.List.{All, find}
use Rattle.proto_base.specs.Texts.{Path}
use Rattle.proto_files.specs.FilesRead.{ReadOf, AreRead}
use Rattle.proto_files.specs.GivenFiles.{FileOf}
use Rattle.proto_edit_entries.specs.declared.refusal.Refusal.{Refusal}
use Rattle.proto_edit_entries.specs.declared.refusal.Refusal.TheVariants.{Needed}
use Rattle.proto_names_imports.specs.Importing.{all_imports}
use Rattle.proto_names_imports.specs.Links.{link_imports}
use Rattle.proto_names_imports.specs.declared.import.FileImport.{FileImport}
use Rattle.proto_names_rules.specs.Grown.{At, at}
use Rattle.proto_names_rules.specs.Marks.{MarksSeen}
use Rattle.proto_names_rules.specs.Names.{Workspace}
use Rattle.proto_names_rules.specs.Skeleton.{Used}
use Rattle.proto_names.specs.Linking.{LinkOf, declaring_file as file_of_row}
use Rattle.proto_names.specs.Linking.{RefId}
use Rattle.proto_edit_captures.specs.CapturedPlaces.{RefusalStandsAtToken}
use Rattle.proto_edit_rules.specs.Rename.{StandsBefore}
use Rattle.proto_edit_rules.specs.DropImport.{IsNeededIn}

-- the imports of the files, file by file
pub record AreImportsOf (files : List FileOf) (imports : List (Vec FileImport)) : Type 0 where
  pub len : length imports ≡ length files
  pub within : All (λ v. All (λ i. i.to < length files) v.items) imports
  pub are : (reads : List ReadOf)
      → AreRead files reads
      → all_imports 0 (map (λ v. v.items) imports) ≡ link_imports files reads

-- for each file, what it sees by these imports is marked
abbrev pub AreSeenIn : List FileOf → Workspace → List (List Bool) → Type 0
AreSeenIn files w seen = (length seen ≡ length files)
    × ((file : ℕ) → file < length files
    → MarksSeen w file (get_or seen file []))

-- a name of a file that is not marked
abbrev pub hidden_in : List Bool → Option ℕ → Bool
hidden_in marks None = false
hidden_in marks (Some file) = not (slice_index_or marks file false)

-- whether the name in this row of the table is of a file that is not marked
abbrev pub is_hidden : LinkOf → List Bool → ℕ → Bool
is_hidden l marks row = hidden_in marks (file_of_row l row)

-- the first token of the first reference of a file that means such a name
abbrev pub first_hidden : LinkOf → ℕ → List Bool → Option ℕ
first_hidden l file marks =
    option_map (λ m. m.token) (find (λ m. is_hidden l marks m.row) (get_or l.meant file []))

-- nothing needs the import; or this does, and nothing that stands before it
abbrev pub IsFirstNeeded : List FileOf → List ReadOf → ℕ → Path → Option RefId → Type 0
IsFirstNeeded files reads k path None = (u : Used At) → IsNeededIn files reads k path u → ⊥
IsFirstNeeded files reads k path (Some id) = (u : Used At)
    × IsNeededIn files reads k path u
    × (u.first ≡ at id.file id.token)
    × ((v : Used At) → IsNeededIn files reads k path v → StandsBefore v.first u.first → ⊥)

-- the refusal is of a reference that needs the import, and has the place of this token
abbrev pub IsNeededAtToken : List FileOf → ℕ → ℕ → Refusal → Type 0
IsNeededAtToken files file token (Needed path offset) =
    RefusalStandsAtToken files file token (string_bytes path) offset
IsNeededAtToken files file token _ = ⊥
