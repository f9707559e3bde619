-- A dropped import: the cases that refuse it, what it changes, and what the descriptors become.
use Rattle.std.specs.List.{filter, Contains}
use Rattle.std.specs.Prelude.{List, [], ℕ, ◌<◌, length, not, ◌-◌, ◌==◌, nat_lt, if◌then◌else◌, ◌∷◌, flat_map}
use Rattle.std.specs.Str.{bytes_eq}
use Rattle.proto_base.specs.Texts.{Text, Path}
use Rattle.proto_case.specs.Camel.{entry_name}
use Rattle.proto_descriptors.specs.Descriptors.{FileDesc}
use Rattle.proto_edit_entries.specs.Entries.{ChangeOf}
use Rattle.proto_files.specs.FilesRead.{ReadOf, read_at}
use Rattle.proto_files.specs.GivenFiles.{FileOf, file_at, paths_of}
use Rattle.proto_names_imports.specs.Links.{names_of_files, link_skeleton, text_of}
use Rattle.proto_names_rules.specs.Edits.{with_imports, IsNeeded}
use Rattle.proto_names_rules.specs.Faults.{imports_of}
use Rattle.proto_names_rules.specs.Grown.{At, at}
use Rattle.proto_names_rules.specs.Names.{Workspace}
use Rattle.proto_names_rules.specs.Skeleton.{Used, reference_of}
use Rattle.proto_text.specs.Edits.{Edit}
use Rattle.proto_text.specs.Values.{StandsFor}
use Rattle.proto_text.specs.declared.lexer.Token.{Token}
use Rattle.proto_tree.specs.declared.piece.Statement.TheVariants as statement
use Rattle.proto_tree.specs.declared.tree.Import.{Import}
use Rattle.proto_edit_rules.specs.AddImport.{is_import_of, asked_in, IsImported}
use Rattle.proto_edit_rules.specs.Rename.{IsFirstPlace}
use Rattle.proto_edit_rules.specs.Statements.{begins, ends, splice, StandsIn, change_by, IsPlaceOf, IsNoFile, places_before, without_place}

-- ---- the splice

-- nothing comes
abbrev pub drop_of : Text → List Token → Import → Edit
drop_of text tokens i =
    splice text (begins tokens (statement.Import i)) (ends tokens (statement.Import i)) []

-- ---- the changes

-- the file imports the path by this statement: its string stands
-- for the path, however it is written
pub record IsImportOf
    (files : List FileOf) (reads : List ReadOf) (file : ℕ) (path : Path) (i : Import)
    : Type 0 where
  pub within : file < length files
  pub stands : StandsIn (statement.Import i) (read_at reads file).tree
  pub value : StandsFor (text_of files reads (at file i.path)) path

-- the splice of the file that takes an import out of it
abbrev pub splice_of_drop : List FileOf → List ReadOf → ℕ → Import → Edit
splice_of_drop files reads file i = drop_of (file_at files file).bytes (read_at reads file).tokens i

-- what the drop of an import changes
abbrev pub changes_of_drop : List FileOf → List ReadOf → ℕ → Import → List ChangeOf
changes_of_drop files reads file i =
    change_by (file_at files file) (splice_of_drop files reads file i ∷ [])

-- ---- the cases that refuse it

-- the names, where the file at k does not import the path
abbrev pub with_dropped : List FileOf → List ReadOf → ℕ → Path → Workspace
with_dropped files reads k path = with_imports (names_of_files files reads)
    (imports_of (paths_of files) (filter (λ a. not (is_import_of k path a)) (asked_in files reads)))

-- a reference of any file that means what its file would no longer see
pub record IsNeededIn
    (files : List FileOf) (reads : List ReadOf) (k : ℕ) (path : Path) (u : Used At) : Type 0 where
  pub used : Contains (link_skeleton files reads).used u
  pub needed : IsNeeded (names_of_files files reads) (with_dropped files reads k path)
      (reference_of (text_of files reads) entry_name u)

-- Case n refuses to drop the import of the path from the file; of several the least is answered.
pub data DropCase
    (files : List FileOf) (reads : List ReadOf) (file path : Path) : ℕ → Type 0 where
  no_such_file : IsNoFile files file → DropCase files reads file path 11
  not_imported : (k : ℕ) → IsPlaceOf files file k
      → (IsImported files reads k path → ⊥) → DropCase files reads file path 13
  needed : (k : ℕ) (u : Used At) → IsPlaceOf files file k
      → IsNeededIn files reads k path u → DropCase files reads file path 15

-- the place that is answered with case 15
abbrev pub IsNeededAt : List FileOf → List ReadOf → Path → Path → Path → ℕ → Type 0
IsNeededAt files reads file path place offset = (k : ℕ) × IsPlaceOf files file k
    × IsFirstPlace files reads (IsNeededIn files reads k path) place offset

-- ---- the descriptors

-- a place goes, and those behind it are lowered by one
abbrev pub lowered : ℕ → List ℕ → List ℕ
lowered n places =
    flat_map (λ p. if p == n then [] else (if nat_lt n p then (p - 1) ∷ [] else p ∷ [])) places

-- the path goes, and its place from the public ones and from the weak ones
abbrev pub without_dependency : Path → FileDesc → FileDesc
without_dependency path d = record d {
  dependency = without_place (places_before (bytes_eq path) d.dependency) d.dependency;
  public_dependency = lowered (places_before (bytes_eq path) d.dependency) d.public_dependency;
  weak_dependency = lowered (places_before (bytes_eq path) d.dependency) d.weak_dependency;
}
