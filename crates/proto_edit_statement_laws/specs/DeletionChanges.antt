-- The changes of a deletion: the one splice of the one file that declares the field.
use Rattle.std.specs.List.{Contains}
use Rattle.std.specs.Prelude.{◌≡◌, ℕ, ◌<◌, ◌^◌, List, length}
use Rattle.proto_base.specs.Texts.{Text}
use Rattle.proto_text.specs.declared.lexer.Token.{Token as TokenOf}
use Rattle.proto_tree.specs.Tree.{Tree}
use Rattle.proto_files.specs.FilesRead.{ReadOf, AreRead, read_at}
use Rattle.proto_files.specs.GivenFiles.{FileOf, file_at}
use Rattle.proto_names_rules.specs.declared.kind.Kind.TheVariants.{Field}
use Rattle.proto_names_rules.specs.Skeleton.{Token}
use Rattle.proto_names_rules.specs.Tree.{Placed, file_placed}
use Rattle.proto_names_outline.specs.FromTree.{items_in}
use Rattle.proto_edit_statement_laws.specs.Deletions.{IsDeleted}
use Rattle.proto_edit_statement_laws.specs.OneFile.{AreFiles, IsChangedBy}
use Rattle.proto_edit_rules.specs.Statements.{IsTooLong}
use Rattle.proto_edit_rules.specs.DeleteField.{FieldAt, IsFieldAt, field_number_value, name_of_field, splice_of_deletion}

-- the file is read without the field and with its reservation, the others as before
pub record IsFieldDeleted
    (files : List FileOf) (reads : List ReadOf) (f : FieldAt) (result : Text)
    (after : List TokenOf) (tree : Tree) : Type 0 where
  pub deleted : IsDeleted (file_at files f.file).profile (file_at files f.file).bytes
      (read_at reads f.file).tokens (read_at reads f.file).tree f.statement f.oneof
      (field_number_value files reads f) (name_of_field files reads f) result after tree
  pub changed : IsChangedBy files reads f.file (splice_of_deletion files reads f) result after tree

-- The changes of a deletion are an entry, and put files that are read,
-- unless the file would be too long.
abbrev pub DeletionsAreChanges : Type 0
DeletionsAreChanges = (files : List FileOf) (reads : List ReadOf) (f : FieldAt)
    → AreFiles files reads
    → IsFieldAt files reads f
    → field_number_value files reads f < 2 ^ 64
    → (IsTooLong (file_at files f.file) (splice_of_deletion files reads f) → ⊥)
    → (result : Text) × (after : List TokenOf) × (tree : Tree)
    × IsFieldDeleted files reads f result after tree

-- ---- which fields there are

-- Each field that a file declares stands there,
abbrev pub FieldsAreThere : Type 0
FieldsAreThere = (files : List FileOf) (reads : List ReadOf) (file : ℕ) (p : Placed)
    → file < length files
    → Contains (file_placed (items_in (read_at reads file).tree)) p
    → p.kind ≡ Field
    → (f : FieldAt) × IsFieldAt files reads f × (f.file ≡ file) × (p.last ≡ Token f.name)

-- and by a token of its name there is one alone.
abbrev pub FieldsAreOne : Type 0
FieldsAreOne = (files : List FileOf) (reads : List ReadOf) (f g : FieldAt)
    → AreRead files reads
    → IsFieldAt files reads f
    → IsFieldAt files reads g
    → f.file ≡ g.file
    → f.name ≡ g.name
    → f ≡ g
