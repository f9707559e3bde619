-- The deletion of a field from a workspace, where no case refuses it.
use Rattle.std.specs.Prelude.{◌≡◌, ℕ, List}
use Rattle.proto_base.specs.Texts.{Text}
use Rattle.proto_text.specs.declared.lexer.Token.{Token}
use Rattle.proto_tree.specs.Tree.{Tree}
use Rattle.proto_files.specs.Faults.{HasNoFault}
use Rattle.proto_files.specs.FilesRead.{ReadOf}
use Rattle.proto_files.specs.GivenFiles.{AreWorkspaceFiles, FileOf, file_at}
use Rattle.proto_files.specs.ReadFaults.{ReadFaults}
use Rattle.proto_names_rules.specs.Grown.{at}
use Rattle.proto_names_imports.specs.Links.{LinkFaults}
use Rattle.proto_descriptors.specs.Descriptors.{FileDesc}
use Rattle.proto_edit_statement_described.specs.Checked.{AreDescribed, CheckFaults}
use Rattle.proto_edit_rules.specs.Rename.{Target}
use Rattle.proto_edit_entries.specs.Entries.{IsEntry}
use Rattle.proto_edit_entries.specs.Putting.{IsPut}
use Rattle.proto_edit_statement_laws.specs.DeletionChanges.{IsFieldDeleted}
use Rattle.proto_edit_rules.specs.DeleteField.{FieldAt, IsFieldAt, changes_of_deletion, splice_of_deletion, DeletionCase, IsField, mapped_deletion}
use Rattle.proto_edit_statement_laws.specs.OneFile.{AreFiles, with_read, with_text}
use Rattle.proto_edit_rules.specs.Statements.{IsTooLong, tree_at, changed_at}
use Rattle.proto_edit_statement_laws.specs.Files.{IsFieldLess}
use Rattle.proto_edit_statement_laws.specs.Kept.{MeanTheSame}
use Rattle.proto_edit_statement_described.specs.Files.{IsFileDeletion}

-- files without a fault, and a field of theirs, by its full name and by its statement, of
-- which no case refuses the deletion
pub record IsAllowedDeletion
    (files : List FileOf) (reads : List ReadOf) (name : Text) (f : FieldAt) : Type 0 where
  pub are : AreFiles files reads
  pub link : HasNoFault (LinkFaults files)
  pub checks : HasNoFault (CheckFaults files)
  pub target : Target
  pub field : IsField files reads name target
  pub token : target.token ≡ at f.file f.name
  pub stands : IsFieldAt files reads f
  pub admissible : (n : ℕ) → DeletionCase files reads name n → ⊥

-- Afterwards the names are those before without the field and what goes with it,
abbrev pub DeletionsAreLess : Type 0
DeletionsAreLess =
    (files : List FileOf) (reads : List ReadOf) (name : Text) (f : FieldAt) (result : Text)
    (after : List Token) (tree : Tree)
    → IsAllowedDeletion files reads name f
    → IsFieldDeleted files reads f result after tree
    → IsFieldLess files reads (with_text files f.file result) (with_read reads f.file after tree)

-- each reference means what it meant,
abbrev pub DeletionsMeanTheSame : Type 0
DeletionsMeanTheSame =
    (files : List FileOf) (reads : List ReadOf) (name : Text) (f : FieldAt) (result : Text)
    (after : List Token) (tree : Tree)
    → IsAllowedDeletion files reads name f
    → IsFieldDeleted files reads f result after tree
    → MeanTheSame files reads (with_text files f.file result) (with_read reads f.file after tree)

-- and the file is one with the field, and one with the reservation, put in.
abbrev pub DeletionsAreDeletions : Type 0
DeletionsAreDeletions =
    (files : List FileOf) (reads : List ReadOf) (name : Text) (f : FieldAt) (result : Text)
    (after : List Token) (tree : Tree)
    → IsAllowedDeletion files reads name f
    → IsFieldDeleted files reads f result after tree
    → IsFileDeletion files reads (with_text files f.file result) (with_read reads f.file after tree)
    f.file f.name

-- So no fault comes in,
abbrev pub DeletionsLeaveNoFault : Type 0
DeletionsLeaveNoFault =
    (files : List FileOf) (reads : List ReadOf) (name : Text) (f : FieldAt) (result : Text)
    (after : List Token) (tree : Tree)
    → IsAllowedDeletion files reads name f
    → IsFieldDeleted files reads f result after tree
    → HasNoFault (LinkFaults (with_text files f.file result))
    × HasNoFault (CheckFaults (with_text files f.file result))

-- and the descriptors are the old ones, of which that of the file is without the field, and has
-- its number and its name reserved.
abbrev pub DeletionsAreMapped : Type 0
DeletionsAreMapped =
    (files : List FileOf) (reads : List ReadOf) (name : Text) (f : FieldAt) (result : Text)
    (after : List Token) (tree : Tree)
    → IsAllowedDeletion files reads name f
    → IsFieldDeleted files reads f result after tree
    → (ds new : List FileDesc)
    → AreDescribed files ds
    → AreDescribed (with_text files f.file result) new
    → new ≡ changed_at f.file (mapped_deletion f.name (tree_at reads f.file)) ds

-- ---- all of it

-- A name that no case refuses is that of one field.
abbrev pub FieldsMayBeDeleted : Type 0
FieldsMayBeDeleted = (files : List FileOf) (reads : List ReadOf) (name : Text)
    → AreFiles files reads
    → HasNoFault (LinkFaults files)
    → HasNoFault (CheckFaults files)
    → ((n : ℕ) → DeletionCase files reads name n → ⊥)
    → (f : FieldAt) × IsAllowedDeletion files reads name f

-- A name is that of one field that may be deleted.
abbrev pub DeletableFieldsAreOne : Type 0
DeletableFieldsAreOne = (files : List FileOf) (reads : List ReadOf) (name : Text) (f g : FieldAt)
    → IsAllowedDeletion files reads name f
    → IsAllowedDeletion files reads name g
    → f ≡ g

-- files of a workspace without a fault, whose descriptors are mapped
pub record AreLeft
    (files : List FileOf) (reads : List ReadOf) (f : FieldAt) (after : List FileOf) : Type 0 where
  pub workspace : AreWorkspaceFiles after
  pub reading : HasNoFault (ReadFaults after)
  pub link : HasNoFault (LinkFaults after)
  pub checks : HasNoFault (CheckFaults after)
  pub mapped : (ds new : List FileDesc)
      → AreDescribed files ds
      → AreDescribed after new
      → new ≡ changed_at f.file (mapped_deletion f.name (tree_at reads f.file)) ds

-- Unless the file would be too long, the changes of the deletion are an entry, and put such files,
abbrev pub DeletionsAreMade : Type 0
DeletionsAreMade = (files : List FileOf) (reads : List ReadOf) (name : Text) (f : FieldAt)
    → IsAllowedDeletion files reads name f
    → (IsTooLong (file_at files f.file) (splice_of_deletion files reads f) → ⊥)
    → IsEntry (changes_of_deletion files reads f)
    × ((after : List FileOf)
    × IsPut files (changes_of_deletion files reads f) after
    × AreLeft files reads f after)

-- and no others.
abbrev pub DeletionsLeaveFiles : Type 0
DeletionsLeaveFiles =
    (files : List FileOf) (reads : List ReadOf) (name : Text) (f : FieldAt) (after : List FileOf)
    → IsAllowedDeletion files reads name f
    → (IsTooLong (file_at files f.file) (splice_of_deletion files reads f) → ⊥)
    → IsPut files (changes_of_deletion files reads f) after
    → AreLeft files reads f after
