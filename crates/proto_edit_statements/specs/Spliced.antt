-- The change of one file by one splice.
use Rattle.std.specs.Prelude.{◌≡◌, ℕ, List, [], ◌∷◌, Option, Some, None}
use Rattle.proto_base.specs.Texts.{Path, Text}
use Rattle.proto_text.specs.Edits.{Edit}
use Rattle.proto_files.specs.FilesRead.{ReadOf}
use Rattle.proto_files.specs.GivenFiles.{FileOf, file_at}
use Rattle.proto_edit_entries.specs.declared.entry.Change.{Change}
use Rattle.proto_edit_entries.specs.Entries.{ChangeOf, change_of}
use Rattle.proto_edit_rules.specs.DeleteField.{FieldAt, changes_of_deletion, splice_of_deletion, IsFieldNamed}
use Rattle.proto_edit_rules.specs.AddImport.{splice_of_addition}
use Rattle.proto_edit_rules.specs.Statements.{IsTooLong, one_change}
use Rattle.proto_edit_statements.specs.Edits.{SomeReading}

-- none where the file would be longer than one may be, else the change
abbrev pub IsSpliced : FileOf → Edit → Option Change → Type 0
IsSpliced f e None = IsTooLong f e
IsSpliced f e (Some c) = (change_of c ∷ [] ≡ one_change f e) × (IsTooLong f e → ⊥)

-- the change of the file that has the field of this full name
abbrev pub IsChangeOfDeletion : List FileOf → List ReadOf → Text → Option Change → Type 0
IsChangeOfDeletion files reads name found = (f : FieldAt)
    × IsFieldNamed files reads name f
    × IsSpliced (file_at files f.file) (splice_of_deletion files reads f) found

-- the changes of the deletion of the field of this full name
abbrev pub AreChangesOfDeletion : List FileOf → Text → List ChangeOf → Type 0
AreChangesOfDeletion files name cs = SomeReading files (λ reads. (f : FieldAt)
    × IsFieldNamed files reads name f
    × (cs ≡ changes_of_deletion files reads f))

-- the change of the file that imports this path as well
abbrev pub IsChangeOfAddition : List FileOf → List ReadOf → ℕ → Path → Option Change → Type 0
IsChangeOfAddition files reads file path found =
    IsSpliced (file_at files file) (splice_of_addition files reads file path) found
