-- The first import of a file that has a path, by the value of its string.
use Rattle.std.specs.Prelude.{ℕ, Bool, if◌then◌else◌, List, Option, Some, None}
use Rattle.proto_base.specs.Texts.{Path}
use Rattle.proto_files.specs.FilesRead.{ReadOf}
use Rattle.proto_files.specs.GivenFiles.{FileOf}
use Rattle.proto_tree.specs.declared.tree.Import.{Import}
use Rattle.proto_tree.specs.declared.piece.Statement.{Statement}
use Rattle.proto_tree.specs.declared.piece.Statement.TheVariants as statement
use Rattle.proto_tree.specs.Tree.{Tree, End, Leaf, Block}
use Rattle.proto_edit_statements.specs.FieldPlaces.{or_else}
use Rattle.proto_edit_rules.specs.DropImport.{IsImportOf}
use Rattle.proto_edit_rules.specs.AddImport.{IsImported}

-- the file does not import the path; or it does, by this statement
abbrev pub IsImportNamed : List FileOf → List ReadOf → ℕ → Path → Option Import → Type 0
IsImportNamed files reads file path None = IsImported files reads file path → ⊥
IsImportNamed files reads file path (Some i) = IsImported files reads file path
    × IsImportOf files reads file path i

-- the import, where the string with its token passes
abbrev pub import_if : (ℕ → Bool) → Statement → Option Import
import_if says (statement.Import i) = if says i.path then Some i else None
import_if says _ = None

-- the first of a file
abbrev pub import_in : (ℕ → Bool) → Tree → Option Import
import_in says End = None
import_in says (Leaf s rest) = or_else (import_if says s) (import_in says rest)
import_in says (Block h i within j rest) = import_in says rest
