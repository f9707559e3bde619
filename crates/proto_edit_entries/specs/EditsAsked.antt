-- Edits as they are asked, with their names and paths as bytes.
use Rattle.std.specs.Prelude.{◌≡◌, ◌≢◌, List, [], true, string_bytes}
use Rattle.std.specs.List.{AllPass, join_with_byte}
use Rattle.proto_base.specs.Ascii as ascii
use Rattle.proto_base.specs.Texts.{Path, Text}
use Rattle.proto_text.specs.Words.{is_run}
use Rattle.proto_files.specs.WorkspacePaths.{IsWorkspacePath}
use Rattle.proto_edit_entries.specs.declared.edit.Edit.{Edit}
use Rattle.proto_edit_entries.specs.declared.edit.Edit.TheVariants as edit

-- the edits that may be asked: of names, or of a file's imports
pub data Asked : Type 0 where
  rename : (name to : Text) → Asked
  delete_field : (name : Text) → Asked
  add_import : (file path : Path) → Asked
  drop_import : (file path : Path) → Asked

-- what an edit asks for, with its names and paths as bytes
abbrev pub asked : Edit → Asked
asked (edit.Rename name to) = rename (string_bytes name) (string_bytes to)
asked (edit.DeleteField name) = delete_field (string_bytes name)
asked (edit.AddImport file path) = add_import (string_bytes file) (string_bytes path)
asked (edit.DropImport file path) = drop_import (string_bytes file) (string_bytes path)

-- words, joined by dots
pub record IsDotted (name : Text) : Type 0 where
  pub some : name ≢ []
  pub parted : (words : List Text) × (name ≡ join_with_byte ascii.dot words) × AllPass is_run words

-- an edit that can be written down: a name is words joined by dots,
-- a new name is a word, and a file and its import are workspace paths
abbrev pub IsNotable : Asked → Type 0
IsNotable (rename name to) = IsDotted name × (is_run to ≡ true)
IsNotable (delete_field name) = IsDotted name
IsNotable (add_import file path) = IsWorkspacePath file × IsWorkspacePath path
IsNotable (drop_import file path) = IsWorkspacePath file × IsWorkspacePath path
