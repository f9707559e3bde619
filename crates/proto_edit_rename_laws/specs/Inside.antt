-- What files declare and use stands at tokens of theirs.
use Rattle.std.specs.Prelude.{◌⊎◌, ◌<◌, List, length}
use Rattle.proto_base.specs.Texts.{Text}
use Rattle.proto_files.specs.FilesRead.{ReadOf, AreRead, read_at}
use Rattle.proto_files.specs.GivenFiles.{FileOf}
use Rattle.proto_names_rules.specs.Grown.{At}
use Rattle.proto_names_imports.specs.Links.{link_skeleton}
use Rattle.proto_edit_rename_laws.specs.Places.{Names, Uses}
use Rattle.proto_edit_rules.specs.Rename.{Target, IsNamed}

-- a token of one of the files
abbrev pub IsInside : List FileOf → List ReadOf → At → Type 0
IsInside files reads i = (i.file < length files) × (i.token < length (read_at reads i.file).tokens)

-- Each token that names a declaration or is a word of a reference is there.
abbrev pub TokensAreInside : Type 0
TokensAreInside = (files : List FileOf) (reads : List ReadOf)
    → AreRead files reads
    → (i : At)
    → Names (link_skeleton files reads) i ⊎ Uses (link_skeleton files reads) i
    → IsInside files reads i

-- So is that of a target.
abbrev pub TargetsAreInside : Type 0
TargetsAreInside = (files : List FileOf) (reads : List ReadOf) (name : Text) (t : Target)
    → AreRead files reads
    → IsNamed files reads name t
    → IsInside files reads t.token
