-- Files of the core language, as written.
use Rattle.std.specs.Prelude.{List, map}
use Rattle.proto_files.specs.Faults.{HasNoFault}
use Rattle.proto_files.specs.FilesRead.{AreRead, ReadOf}
use Rattle.proto_files.specs.GivenFiles.{FileOf}
use Rattle.proto_files.specs.Laws.{AreCore, as_written}
use Rattle.proto_descriptors.specs.Descriptors.{FileDesc}
use Rattle.proto_desc.specs.Checked.{AreDescribed}
use Rattle.proto_desc.specs.Whole.{FileFaults}

-- Files that are read in the core language and have no fault there have none as written.
abbrev pub CoreFilesCompile : Type 0
CoreFilesCompile =
    (files : List FileOf) (reads : List ReadOf) → AreCore files → AreRead files reads
    → HasNoFault (FileFaults files) → HasNoFault (FileFaults (map as_written files))

-- They have the same descriptors as written.
abbrev pub CoreFilesAreDescribed : Type 0
CoreFilesAreDescribed =
    (files : List FileOf) (reads : List ReadOf) (ds : List FileDesc)
    → AreCore files → AreRead files reads
    → AreDescribed files ds → AreDescribed (map as_written files) ds
