-- A workspace with what the rules look up in it.
use Rattle.std.specs.Prelude.{◌≡◌, List}
use Rattle.proto_files.specs.FilesRead.{ReadOf, AreRead}
use Rattle.proto_lint_names.specs.BlockFinds.{all_messages}
use Rattle.proto_lint.specs.Heads.{heads}
use Rattle.proto_lint.specs.ImportTables.{AreImportTablesOf}
use Rattle.proto_lint.specs.declared.linting.Linter.{Linter}

-- what a linter looks up in its workspace is so: the heads of its files, their imports, and the
-- messages of all methods
pub record IsLinter (l : Linter) : Type 0 where
  pub heads_are : (reads : List ReadOf) → AreRead l.linked.now.files reads
      → l.heads ≡ heads l.linked.now.files reads
  pub imports_are : AreImportTablesOf l.linked.now.files l.imports
  pub messages_are : (reads : List ReadOf) → AreRead l.linked.now.files reads
      → l.messages ≡ all_messages l.linked.now.files reads
