-- Files whose texts and grammar have no fault are read.
use Rattle.std.specs.Prelude.{List}
use Rattle.proto_files.specs.Faults.{HasNoFault}
use Rattle.proto_files.specs.FilesRead.{ReadOf, AreRead}
use Rattle.proto_files.specs.GivenFiles.{FileOf}
use Rattle.proto_files.specs.ReadFaults.{ReadFaults}

-- They have tokens and trees.
abbrev pub CleanFilesAreRead : Type 0
CleanFilesAreRead = (files : List FileOf)
    → HasNoFault (ReadFaults files)
    → (reads : List ReadOf) × AreRead files reads
