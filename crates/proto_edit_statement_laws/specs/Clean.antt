-- Files without faults of imports, names and references.
use Rattle.std.specs.Prelude.{List}
use Rattle.proto_files.specs.Faults.{HasNoFault}
use Rattle.proto_files.specs.GivenFiles.{FileOf}
use Rattle.proto_files.specs.FilesRead.{ReadOf, AreRead}
use Rattle.proto_names_imports.specs.Links.{LinkFaults}

-- files that are read so, and have no fault of imports, names and references
pub record AreClean (files : List FileOf) (reads : List ReadOf) : Type 0 where
  pub read : AreRead files reads
  pub clean : HasNoFault (LinkFaults files)
