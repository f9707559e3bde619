-- An added import: the cases that refuse it, what it changes, and what the descriptors become.
use Rattle.std.specs.List.{Contains}
use Rattle.std.specs.Prelude.{ℕ, ◌+◌, List, ◌++◌, codes, suc, [], ◌∷◌, flat_map, zero, Bool, ◌&&◌, ◌==◌, ◌≡◌}
use Rattle.std.specs.Str.{bytes_eq}
use Rattle.proto_ast.specs.Parts.{statements}
use Rattle.proto_base.specs.Texts.{Path, Text}
use Rattle.proto_case.specs.Camel.{entry_name}
use Rattle.proto_descriptors.specs.Descriptors.{FileDesc}
use Rattle.proto_edit_entries.specs.Entries.{ChangeOf}
use Rattle.proto_files.specs.FilesRead.{ReadOf, read_at}
use Rattle.proto_files.specs.GivenFiles.{FileOf, file_at}
use Rattle.proto_names_imports.specs.Links.{all_wanted, text_of, link_imports, names_of_files, link_skeleton}
use Rattle.proto_names_rules.specs.Cycles.{Leads}
use Rattle.proto_names_rules.specs.Edits.{import_of, with_imports, IsOvertaken}
use Rattle.proto_names_rules.specs.Faults.{AskedImport}
use Rattle.proto_names_rules.specs.Grown.{At}
use Rattle.proto_names_rules.specs.Names.{Workspace}
use Rattle.proto_names_rules.specs.Skeleton.{Used, reference_of}
use Rattle.proto_text.specs.Edits.{Edit}
use Rattle.proto_text.specs.Segments.{quoted, end_before}
use Rattle.proto_text.specs.declared.lexer.Token.{Token}
use Rattle.proto_tree.specs.Tree.{Tree}
use Rattle.proto_tree.specs.declared.piece.Statement.{Statement}
use Rattle.proto_tree.specs.declared.piece.Statement.TheVariants as statement
use Rattle.proto_edit_rules.specs.Rename.{IsFirstPlace}
use Rattle.proto_edit_rules.specs.Statements.{splice, change_by, IsPlaceOf, IsNoFile, IsTooLong}

-- ---- the splice

-- `import "PATH";`
abbrev pub import_text : List ℕ → List ℕ
import_text path = codes "import " ++ (quoted path ++ codes ";")

-- the token behind a statement, if it is the syntax, as a list of one or of none
abbrev pub behind_syntax : Statement → List ℕ
behind_syntax (statement.Syntax s) = suc s.semicolon ∷ []
behind_syntax _ = []

-- the token behind a statement, if it is the package
abbrev pub behind_package : Statement → List ℕ
behind_package (statement.Package p) = suc p.semicolon ∷ []
behind_package _ = []

-- the token behind a statement, if it is an import
abbrev pub behind_import : Statement → List ℕ
behind_import (statement.Import i) = suc i.semicolon ∷ []
behind_import _ = []

-- the last of some tokens, which follow on one
abbrev pub last_from : ℕ → List ℕ → ℕ
last_from n [] = n
last_from n (k ∷ ks) = last_from k ks

-- The token behind the last import; with none, behind the package; with neither,
-- behind the syntax; else the first.
abbrev pub import_place : Tree → ℕ
import_place t = last_from 0 (flat_map behind_syntax (statements t)
    ++ (flat_map behind_package (statements t) ++ flat_map behind_import (statements t)))

-- a line of its own: behind what stands there, or before all
abbrev pub added_text : ℕ → Path → Text
added_text zero path = import_text path ++ codes "\n"
added_text (suc place) path = codes "\n" ++ import_text path

-- nothing goes
abbrev pub addition : Text → List Token → Tree → Path → Edit
addition text tokens t path = splice text (end_before tokens (import_place t))
    (end_before tokens (import_place t)) (added_text (import_place t) path)

-- ---- the changes

-- the splice of the file that puts an import of the path into it
abbrev pub splice_of_addition : List FileOf → List ReadOf → ℕ → Path → Edit
splice_of_addition files reads file path =
    addition (file_at files file).bytes (read_at reads file).tokens (read_at reads file).tree path

-- what the addition of an import of the path to a file changes
abbrev pub changes_of_addition : List FileOf → List ReadOf → ℕ → Path → List ChangeOf
changes_of_addition files reads file path =
    change_by (file_at files file) (splice_of_addition files reads file path ∷ [])

-- ---- the cases that refuse it

-- it is an import of this path by this file
abbrev pub is_import_of : ℕ → Path → AskedImport → Bool
is_import_of k path a = (a.place.file == k) && bytes_eq a.path path

-- what each file asks for by its imports, file by file
abbrev pub asked_in : List FileOf → List ReadOf → List AskedImport
asked_in files reads = all_wanted (text_of files reads) 0 reads

-- the file imports the path, however its string is spelled
abbrev pub IsImported : List FileOf → List ReadOf → ℕ → Path → Type 0
IsImported files reads k path = (a : AskedImport) × Contains (asked_in files reads) a
    × (a.place.file ≡ k) × (a.path ≡ path)

-- the names, where the file at k imports the one at the other place as well
abbrev pub with_added : List FileOf → List ReadOf → ℕ → ℕ → Workspace
with_added files reads k to =
    with_imports (names_of_files files reads) (link_imports files reads ++ import_of k to ∷ [])

-- a reference of the file that would be found further inward than it is now
pub record IsOvertakenIn
    (files : List FileOf) (reads : List ReadOf) (k to : ℕ) (u : Used At) : Type 0 where
  pub used : Contains (link_skeleton files reads).used u
  pub own : u.file ≡ k
  pub overtaken : IsOvertaken (names_of_files files reads) (with_added files reads k to)
      (reference_of (text_of files reads) entry_name u)

-- Case n refuses to add the import of the path to the file; of several the least is answered.
pub data AdditionCase
    (files : List FileOf) (reads : List ReadOf) (file path : Path) : ℕ → Type 0 where
  captured : (k to : ℕ) (u : Used At) → IsPlaceOf files file k → IsPlaceOf files path to
      → IsOvertakenIn files reads k to u → AdditionCase files reads file path 7
  unknown_file : IsNoFile files file → AdditionCase files reads file path 11
  unknown_path : IsNoFile files path → AdditionCase files reads file path 11
  already_imported : (k : ℕ) → IsPlaceOf files file k
      → IsImported files reads k path → AdditionCase files reads file path 12
  -- the path is the file's, or leads to it by imports
  cycle : (k to : ℕ) → IsPlaceOf files file k → IsPlaceOf files path to
      → Leads (link_imports files reads) to k → AdditionCase files reads file path 14

-- the place that is answered with case 7: that of the least such reference
abbrev pub IsOvertakenAt : List FileOf → List ReadOf → Path → Path → Path → ℕ → Type 0
IsOvertakenAt files reads file path place offset = (k to : ℕ)
    × IsPlaceOf files file k × IsPlaceOf files path to
    × IsFirstPlace files reads (IsOvertakenIn files reads k to) place offset

-- Case n refuses the import; of several the least is answered.
pub data RefusesAddition
    (files : List FileOf) (reads : List ReadOf) (file path : Path) : ℕ → Type 0 where
  by_name : (n : ℕ) → AdditionCase files reads file path n → RefusesAddition files reads file path n
  too_large : (k : ℕ) → IsPlaceOf files file k
      → IsTooLong (file_at files k) (splice_of_addition files reads k path)
      → RefusesAddition files reads file path 16

-- ---- the descriptors

-- with other imports
abbrev pub with_dependencies : List Path → List ℕ → List ℕ → FileDesc → FileDesc
with_dependencies dependency public weak d = record d {
  dependency = dependency;
  public_dependency = public;
  weak_dependency = weak;
}

-- the path comes in last, and is neither a public nor a weak import
abbrev pub with_dependency : Path → FileDesc → FileDesc
with_dependency path d = record d { dependency = d.dependency ++ path ∷ [] }
