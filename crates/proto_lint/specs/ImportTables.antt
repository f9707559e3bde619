-- Tables of the imports of files, and the files in which the meanings of references are declared.
use Rattle.std.specs.Prelude.{◌≡◌, ◌↔◌, ℕ, ◌<◌, Bool, true, if◌then◌else◌, List, [], length, get_or, map, slice_set, Option, Some, None}
use Rattle.std.specs.List.{All, Contains, filter_map}
use Rattle.proto_base.specs.Texts.{Path, Text, or_nothing}
use Rattle.proto_text.specs.Values.{value_of}
use Rattle.proto_files.specs.GivenFiles.{FileOf, paths_of}
use Rattle.proto_names_rules.specs.Faults.{file_with_path}
use Rattle.proto_names_rules.specs.Names.{Import, Reaches}
use Rattle.proto_names_outline.specs.FromTree.{Wanted}
use Rattle.proto_names_imports.specs.ImportSteps.{IsFileIndex}
use Rattle.proto_files.specs.FilesRead.{ReadOf, AreRead}
use Rattle.proto_names_imports.specs.Links.{link_imports, names_of_files}
use Rattle.proto_names_imports.specs.Walks.{IsMarked}
use Rattle.proto_names.specs.Linking.{LinkOf, declaring_file}
use Rattle.proto_names.specs.Linking.{Meant}
use Rattle.proto_lint.specs.Imports.{is_used}
use Rattle.proto_lint.specs.declared.imports.Imports.{Imports}

-- the file, by its number among paths, that a public import names; none of an import that is not
-- public
abbrev pub public_target : List Path → (ℕ → Text) → Wanted → Option ℕ
public_target paths text w =
    if w.is_public then file_with_path paths (or_nothing (value_of (text w.path))) else None

-- the files that the public ones of some imports name, in order
abbrev pub public_targets : List Path → (ℕ → Text) → List Wanted → List ℕ
public_targets paths text wanted = filter_map (public_target paths text) wanted

-- the list of a file has the files that it imports publicly
abbrev pub ArePublic : List (List ℕ) → List Import → Type 0
ArePublic next imports = (from to : ℕ) → Contains (get_or next from []) to
    ↔ ((i : Import) × Contains imports i
    × (i.from ≡ from) × (i.to ≡ to) × (i.is_public ≡ true))

-- the tables are those of the files
pub record AreImportTablesOf (files : List FileOf) (i : Imports) : Type 0 where
  pub index : IsFileIndex i.files (paths_of files)
  pub count : length i.public.items ≡ length files
  pub within : All (λ v. All (λ g. g < length files) v.items) i.public.items
  pub public : (reads : List ReadOf) → AreRead files reads
      → ArePublic (map (λ v. v.items) i.public.items) (link_imports files reads)

-- of these references one means a name that this file declares
abbrev pub MeansIn : LinkOf → List Meant → ℕ → Type 0
MeansIn l means g = (m : Meant) × Contains means m × (declaring_file l m.row ≡ Some g)

-- the files in which the meanings of these references are declared are marked
abbrev pub MarksMeant : LinkOf → List Meant → ℕ → List Bool → Type 0
MarksMeant l means count marks = (g : ℕ) → g < count → IsMarked marks g ↔ MeansIn l means g

-- public imports of any number lead from this file to one that is marked
abbrev pub LeadsToMarked : List Import → Option ℕ → List Bool → Type 0
LeadsToMarked imports None marks = ⊥
LeadsToMarked imports (Some to) marks = (g : ℕ) × Reaches imports to g × IsMarked marks g

-- an import of a file is used where its file leads to one of these
pub record MarksUsed (files : List FileOf) (file : ℕ) (marks : List Bool) : Type 0 where
  pub sized : length marks ≡ length files
  pub used : (reads : List ReadOf) → AreRead files reads → (to : ℕ) → to < length files
      → LeadsToMarked (link_imports files reads) (Some to) marks
      ↔ (is_used (names_of_files files reads) file (Some to) ≡ true)

-- marks of files with the mark of one more, if there is one
abbrev pub with_mark : List Bool → Option ℕ → List Bool
with_mark marks None = marks
with_mark marks (Some file) = slice_set marks file true
