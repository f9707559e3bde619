-- Each file of an allowed rename turns, so its descriptors afterwards
-- are the old ones under the name map.
use Rattle.std.specs.Prelude.{◌≡◌, ℕ, ◌<◌, Bool, List, length, None}
use Rattle.proto_base.specs.Texts.{Text}
use Rattle.proto_files.specs.GivenFiles.{FileOf}
use Rattle.proto_files.specs.FilesRead.{ReadOf, read_at}
use Rattle.proto_descriptors.specs.Descriptors.{FileDesc}
use Rattle.proto_edit_rename_laws.specs.SceneOf.{scene_of}
use Rattle.proto_desc.specs.Checked.{AreDescribed, described}
use Rattle.proto_edit_rename_laws.specs.Rewording.{AreReworded}
use Rattle.proto_edit_rules.specs.Rename.{Target, name_map, renamed_words, mapped, AreRenamed, WritesJson}
use Rattle.proto_edit_rename_described.specs.Allowed.{IsAllowedRename}
use Rattle.proto_edit_rename_described.specs.Turns.{FileTurns}

-- What makes the descriptor afterwards the mapped one, file by file.
abbrev pub FilesTurn : Type 0
FilesTurn =
    (files : List FileOf) (reads : List ReadOf) (name to : Text) (t : Target)
    (after : List FileOf) (seen : List ReadOf)
    → IsAllowedRename files reads name to t
    → AreReworded (renamed_words files reads t to) files reads after seen
    → (written : Bool)
    → WritesJson files reads t written
    → (file : ℕ)
    → file < length files
    → FileTurns (name_map files reads t to) (record { written = written; enum = t.enum })
    (scene_of None files reads file) (scene_of None after seen file) (read_at reads file).tree

-- The descriptors of the files afterwards.
abbrev pub AllAreMapped : Type 0
AllAreMapped =
    (files : List FileOf) (reads : List ReadOf) (name to : Text) (t : Target)
    (after : List FileOf) (seen : List ReadOf)
    → IsAllowedRename files reads name to t
    → AreReworded (renamed_words files reads t to) files reads after seen
    → (written : Bool)
    → WritesJson files reads t written
    → described after seen ≡ mapped (name_map files reads t to)
    (record { written = written; enum = t.enum }) (described files reads)

-- So a rename leaves descriptors that are the old ones under its name map.
abbrev pub RenamesAreMapped : Type 0
RenamesAreMapped =
    (files : List FileOf) (reads : List ReadOf) (name to : Text) (t : Target)
    (after : List FileOf) (seen : List ReadOf)
    → IsAllowedRename files reads name to t
    → AreReworded (renamed_words files reads t to) files reads after seen
    → (ds new : List FileDesc)
    → AreDescribed files ds
    → AreDescribed after new
    → AreRenamed files reads t to ds new
