-- The changes of an added import and of a dropped one: the one splice of the file.
use Rattle.std.specs.Prelude.{ℕ, ◌<◌, List, length}
use Rattle.proto_base.specs.Texts.{Path, Text}
use Rattle.proto_text.specs.declared.lexer.Token.{Token}
use Rattle.proto_tree.specs.declared.tree.Import.{Import}
use Rattle.proto_tree.specs.Tree.{Tree}
use Rattle.proto_files.specs.FilesRead.{ReadOf, read_at}
use Rattle.proto_files.specs.GivenFiles.{FileOf, file_at}
use Rattle.proto_files.specs.WorkspacePaths.{IsWorkspacePath}
use Rattle.proto_edit_statement_laws.specs.Imports.{IsImportPutIn, IsImportTakenOut}
use Rattle.proto_edit_statement_laws.specs.OneFile.{AreFiles, IsChangedBy}
use Rattle.proto_edit_rules.specs.Statements.{IsTooLong}
use Rattle.proto_edit_rules.specs.AddImport.{splice_of_addition}
use Rattle.proto_edit_rules.specs.DropImport.{IsImportOf, splice_of_drop}

-- ---- an added import

-- the file is read with the import, the others as before
pub record IsImportAdded
    (files : List FileOf) (reads : List ReadOf) (file : ℕ) (path : Path) (result : Text)
    (after : List Token) (tree : Tree) : Type 0 where
  pub added : IsImportPutIn (file_at files file).profile (file_at files file).bytes
      (read_at reads file).tokens (read_at reads file).tree path result after tree
  pub changed : IsChangedBy files reads file (splice_of_addition files reads file path) result after
      tree

-- The changes of an added import are an entry, and put files that are read,
-- unless the file would be too long.
abbrev pub AdditionsAreChanges : Type 0
AdditionsAreChanges = (files : List FileOf) (reads : List ReadOf) (file : ℕ) (path : Path)
    → AreFiles files reads
    → file < length files
    → IsWorkspacePath path
    → (IsTooLong (file_at files file) (splice_of_addition files reads file path) → ⊥)
    → (result : Text) × (after : List Token) × (tree : Tree)
    × IsImportAdded files reads file path result after tree

-- ---- a dropped import

-- the file is read without the import, the others as before
pub record IsImportDropped
    (files : List FileOf) (reads : List ReadOf) (file : ℕ) (i : Import) (result : Text)
    (after : List Token) (tree : Tree) : Type 0 where
  pub dropped : IsImportTakenOut (file_at files file).profile (file_at files file).bytes
      (read_at reads file).tokens (read_at reads file).tree i result after tree
  pub changed : IsChangedBy files reads file (splice_of_drop files reads file i) result after tree

-- The changes of a dropped import are an entry, and put files that are read; no file gets longer.
abbrev pub DropsAreChanges : Type 0
DropsAreChanges =
    (files : List FileOf) (reads : List ReadOf) (file : ℕ) (path : Path) (i : Import)
    → AreFiles files reads
    → IsImportOf files reads file path i
    → (result : Text) × (after : List Token) × (tree : Tree)
    × IsImportDropped files reads file i result after tree
