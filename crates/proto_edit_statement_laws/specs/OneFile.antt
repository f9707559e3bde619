-- One file of a workspace that is changed by one splice: its change, the
-- files then, and what is read of them.
use Rattle.std.specs.Prelude.{◌≡◌, ℕ, ◌<◌, List, length, slice_set}
use Rattle.proto_base.specs.Texts.{Text}
use Rattle.proto_text.specs.declared.lexer.Token.{Token}
use Rattle.proto_text.specs.Edits.{Edit}
use Rattle.proto_tree.specs.Tree.{Tree}
use Rattle.proto_files.specs.FilesRead.{ReadOf, AreRead}
use Rattle.proto_files.specs.GivenFiles.{FileOf, AreWorkspaceFiles, file_at}
use Rattle.proto_files.specs.ReadFaults.{IsText}
use Rattle.proto_edit_entries.specs.Entries.{IsEntry}
use Rattle.proto_edit_entries.specs.Putting.{IsPut}
use Rattle.proto_edit_rules.specs.Statements.{length_with, one_change}

-- files of a workspace that are texts, with their tokens and trees
pub record AreFiles (files : List FileOf) (reads : List ReadOf) : Type 0 where
  pub workspace : AreWorkspaceFiles files
  pub texts : (k : ℕ) → k < length files → IsText (file_at files k).bytes
  pub read : AreRead files reads

-- the files with another text in place of that of one
abbrev pub with_text : List FileOf → ℕ → Text → List FileOf
with_text files file text =
    slice_set files file (record (file_at files file) { bytes = text })

-- what is read of files, with other tokens and another tree of one of them
abbrev pub with_read : List ReadOf → ℕ → List Token → Tree → List ReadOf
with_read reads file tokens tree = slice_set reads file (record { tokens = tokens; tree = tree })

-- The splice of a file is an entry, and puts the files with the new text, which
-- are read, and have the length told.
pub record IsChangedBy
    (files : List FileOf) (reads : List ReadOf) (file : ℕ) (e : Edit) (result : Text)
    (after : List Token) (tree : Tree) : Type 0 where
  pub entry : IsEntry (one_change (file_at files file) e)
  pub put : IsPut files (one_change (file_at files file) e) (with_text files file result)
  pub long : length result ≡ length_with (file_at files file) e
  pub still : AreFiles (with_text files file result) (with_read reads file after tree)
