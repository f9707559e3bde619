-- A name that neither case 1 nor case 2 refuses to delete is that of one written field.
use Rattle.std.specs.Prelude.{◌≡◌, List}
use Rattle.proto_base.specs.Texts.{Text}
use Rattle.proto_files.specs.Faults.{HasNoFault}
use Rattle.proto_files.specs.GivenFiles.{FileOf}
use Rattle.proto_files.specs.FilesRead.{ReadOf, AreRead}
use Rattle.proto_names_imports.specs.Links.{LinkFaults}
use Rattle.proto_edit_rules.specs.Rename.{Target}
use Rattle.proto_edit_rules.specs.DeleteField.{DeletionCase, IsField}

-- There is a field,
abbrev pub NamedFieldsAreThere : Type 0
NamedFieldsAreThere = (files : List FileOf) (reads : List ReadOf) (name : Text)
    → AreRead files reads
    → (DeletionCase files reads name 1 → ⊥)
    → (DeletionCase files reads name 2 → ⊥)
    → (t : Target) × IsField files reads name t

-- one alone,
abbrev pub NamedFieldsAreOne : Type 0
NamedFieldsAreOne = (files : List FileOf) (reads : List ReadOf) (name : Text) (t u : Target)
    → AreRead files reads
    → HasNoFault (LinkFaults files)
    → IsField files reads name t
    → IsField files reads name u
    → t ≡ u

-- and its name is refused by neither case.
abbrev pub FieldsMayGo : Type 0
FieldsMayGo = (files : List FileOf) (reads : List ReadOf) (name : Text) (t : Target)
    → AreRead files reads
    → HasNoFault (LinkFaults files)
    → IsField files reads name t
    → (DeletionCase files reads name 1 → ⊥) × (DeletionCase files reads name 2 → ⊥)
