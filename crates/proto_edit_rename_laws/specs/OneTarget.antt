-- A name is that of one target.
use Rattle.std.specs.Prelude.{◌≡◌, List}
use Rattle.proto_base.specs.Texts.{Text}
use Rattle.proto_files.specs.Faults.{HasNoFault}
use Rattle.proto_files.specs.GivenFiles.{FileOf}
use Rattle.proto_files.specs.FilesRead.{ReadOf, AreRead}
use Rattle.proto_names_imports.specs.Links.{LinkFaults}
use Rattle.proto_edit_rules.specs.Rename.{RenameCase, Target, IsNamed}

-- Two targets of one name are the same.
abbrev pub TargetsAreOne : Type 0
TargetsAreOne = (files : List FileOf) (reads : List ReadOf) (name : Text) (t u : Target)
    → AreRead files reads
    → HasNoFault (LinkFaults files)
    → IsNamed files reads name t
    → IsNamed files reads name u
    → t ≡ u

-- And there is one, where no symbol of the name is missing, or of a kind that may not be renamed.
abbrev pub TargetsAreThere : Type 0
TargetsAreThere = (files : List FileOf) (reads : List ReadOf) (name to : Text)
    → AreRead files reads
    → (RenameCase files reads name to 1 → ⊥)
    → (RenameCase files reads name to 2 → ⊥)
    → (t : Target) × IsNamed files reads name t
