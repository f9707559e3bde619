-- The changes of a rename that no case refuses are an entry, and the files after it are texts.
use Rattle.std.specs.Prelude.{◌≡◌, ℕ, ◌<◌, List, length, Some}
use Rattle.proto_base.specs.Texts.{Text}
use Rattle.proto_files.specs.GivenFiles.{FileOf, AreWorkspaceFiles, file_at}
use Rattle.proto_files.specs.ReadFaults.{IsText}
use Rattle.proto_files.specs.FilesRead.{ReadOf, AreRead, read_at}
use Rattle.proto_names_rules.specs.Grown.{At}
use Rattle.proto_names_imports.specs.Links.{text_of}
use Rattle.proto_edit_entries.specs.Entries.{IsEntry}
use Rattle.proto_edit_rules.specs.Rename.{RenameCase, changes_of_words, Target, IsNamed, renamed_words}
use Rattle.proto_edit_rename_laws.specs.Rewording.{AreReworded}

-- files of a workspace that are texts, and the rename of a token of theirs that no case refuses
pub record IsPutIn
    (files : List FileOf) (reads : List ReadOf) (name to : Text) (t : Target)
    (after : List FileOf) (seen : List ReadOf) : Type 0 where
  pub texts : (k : ℕ) → k < length files → IsText (file_at files k).bytes
  pub read : AreRead files reads
  pub named : IsNamed files reads name t
  pub admissible : (n : ℕ) → RenameCase files reads name to n → ⊥
  pub reworded : AreReworded (renamed_words files reads t to) files reads after seen

-- Each changed word is the old name, and becomes the new one.
abbrev pub OldTextsAreNames : Type 0
OldTextsAreNames =
    (files : List FileOf) (reads : List ReadOf) (t : Target) (to : Text) (a : At) (w : Text)
    → renamed_words files reads t to a ≡ Some w
    → (w ≡ to) × (text_of files reads a ≡ text_of files reads t.token)

-- The changes are an entry, where the target is a token of its file.
abbrev pub ChangesAreEntry : Type 0
ChangesAreEntry =
    (files : List FileOf) (reads : List ReadOf) (name to : Text) (t : Target)
    (after : List FileOf) (seen : List ReadOf)
    → AreWorkspaceFiles files
    → IsPutIn files reads name to t after seen
    → t.token.file < length files
    → t.token.token < length (read_at reads t.token.file).tokens
    → IsEntry (changes_of_words (renamed_words files reads t to) files reads)

-- The files after are texts, too: UTF-8, and not too large.
abbrev pub TextsAfter : Type 0
TextsAfter =
    (files : List FileOf) (reads : List ReadOf) (name to : Text) (t : Target)
    (after : List FileOf) (seen : List ReadOf)
    → IsPutIn files reads name to t after seen
    → (k : ℕ)
    → k < length after
    → IsText (file_at after k).bytes
