-- The link of files of the core language, as written.
use Rattle.std.specs.Prelude.{◌≡◌, List, map}
use Rattle.proto_files.specs.Faults.{HasNoFault}
use Rattle.proto_files.specs.FilesRead.{AreRead, ReadOf}
use Rattle.proto_files.specs.GivenFiles.{FileOf}
use Rattle.proto_files.specs.Laws.{AreCore, as_written}
use Rattle.proto_names_imports.specs.Links.{LinkFaults, names_of_files}

-- The names, imports and references of files do not ask for the files' language.
abbrev pub NamesAskNoLanguage : Type 0
NamesAskNoLanguage =
    (files : List FileOf) (reads : List ReadOf)
    → names_of_files (map as_written files) reads ≡ names_of_files files reads

-- Where they have no fault in the core language, they have none as written.
abbrev pub CoreFilesLink : Type 0
CoreFilesLink =
    (files : List FileOf) (reads : List ReadOf) → AreCore files → AreRead files reads
    → HasNoFault (LinkFaults files) → HasNoFault (LinkFaults (map as_written files))
