-- No fault of texts, the grammar, imports, names and references comes in by a rename.
use Rattle.std.specs.Prelude.{ℕ, ◌<◌, Bool, List, length}
use Rattle.proto_base.specs.Texts.{Text}
use Rattle.proto_files.specs.Faults.{HasNoFault}
use Rattle.proto_files.specs.GivenFiles.{FileOf, file_at}
use Rattle.proto_files.specs.ReadFaults.{IsText, ReadFaults}
use Rattle.proto_files.specs.FilesRead.{ReadOf, AreRead}
use Rattle.proto_names_rules.specs.Grown.{At}
use Rattle.proto_names_rules.specs.Linked.{IsLinked}
use Rattle.proto_names_rules.specs.Skeleton.{Source, Declared, IsWoven}
use Rattle.proto_names_imports.specs.Links.{LinkFaults, link_skeleton, names_of_files}
use Rattle.proto_edit_rename_laws.specs.Scenes.{IsRename}
use Rattle.proto_edit_rules.specs.Rename.{NewWords}

-- the names of files that were read
abbrev pub FilesAreWoven : Type 0
FilesAreWoven = (files : List FileOf) (reads : List ReadOf)
    → AreRead files reads
    → IsWoven (link_skeleton files reads)

-- and without faults they are linked
abbrev pub FilesAreLinked : Type 0
FilesAreLinked = (files : List FileOf) (reads : List ReadOf)
    → AreRead files reads
    → HasNoFault (LinkFaults files)
    → IsLinked (names_of_files files reads)

-- texts that were read have no fault
abbrev pub ReadFilesAreClean : Type 0
ReadFilesAreClean = (files : List FileOf) (reads : List ReadOf)
    → AreRead files reads
    → ((k : ℕ) → k < length files → IsText (file_at files k).bytes)
    → HasNoFault (ReadFaults files)

-- Without collision and capture no fault of these phases comes in.
abbrev pub NoLinkFaultComesIn : Type 0
NoLinkFaultComesIn =
    (files : List FileOf) (reads : List ReadOf) (c : NewWords) (after : List FileOf)
    (seen : List ReadOf) (token : At) (above : List (Source At)) (aim : Declared At) (is_map : Bool)
    (to : Text)
    → IsRename files reads c after seen token above aim is_map to
    → HasNoFault (LinkFaults files)
    → HasNoFault (LinkFaults after)
