-- No default is wrong after a rename.
use Rattle.std.specs.Prelude.{List}
use Rattle.proto_base.specs.Texts.{Text}
use Rattle.proto_files.specs.GivenFiles.{FileOf}
use Rattle.proto_files.specs.FilesRead.{ReadOf}
use Rattle.proto_edit_rename_laws.specs.Roles.{HasFieldRoles}
use Rattle.proto_edit_rename_laws.specs.Rewording.{AreReworded}
use Rattle.proto_edit_rules.specs.Rename.{Target, renamed_words}
use Rattle.proto_edit_rename_described.specs.Allowed.{DefaultsFit, IsAllowedRename}

-- Each field keeps its label, type and numbers, and its defaults go with the value that they mean.
abbrev pub FieldsHaveRoles : Type 0
FieldsHaveRoles =
    (files : List FileOf) (reads : List ReadOf) (name to : Text) (t : Target)
    (after : List FileOf) (seen : List ReadOf)
    → IsAllowedRename files reads name to t
    → AreReworded (renamed_words files reads t to) files reads after seen
    → HasFieldRoles files reads t to after seen

-- So no default is wrong.
abbrev pub AllDefaultsFit : Type 0
AllDefaultsFit =
    (files : List FileOf) (reads : List ReadOf) (name to : Text) (t : Target)
    (after : List FileOf) (seen : List ReadOf)
    → IsAllowedRename files reads name to t
    → AreReworded (renamed_words files reads t to) files reads after seen
    → DefaultsFit after seen
