-- The tokens of linked files have the roles that a rename wants of them.
use Rattle.std.specs.Prelude.{List}
use Rattle.proto_base.specs.Texts.{Text}
use Rattle.proto_files.specs.Faults.{HasNoFault}
use Rattle.proto_files.specs.FilesRead.{ReadOf, AreRead}
use Rattle.proto_files.specs.GivenFiles.{FileOf}
use Rattle.proto_names_imports.specs.Links.{LinkFaults}
use Rattle.proto_edit_rename_laws.specs.Roles.{TokensHaveRenameRoles}
use Rattle.proto_edit_rules.specs.Rename.{Target, IsNamed}

-- For each symbol that may be renamed, whatever the new word.
abbrev pub AllTokensHaveRoles : Type 0
AllTokensHaveRoles = (files : List FileOf) (reads : List ReadOf) (name to : Text) (t : Target)
    → AreRead files reads
    → HasNoFault (LinkFaults files)
    → IsNamed files reads name t
    → TokensHaveRenameRoles files reads t to
