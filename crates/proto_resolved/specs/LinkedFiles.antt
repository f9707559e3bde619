-- Files with a link, which is theirs.
use Rattle.std.specs.Prelude.{List}
use Rattle.proto_files.specs.Faults.{HasNoFault}
use Rattle.proto_files.specs.FilesRead.{AreRead, ReadOf}
use Rattle.proto_files.specs.GivenFiles.{FileOf}
use Rattle.proto_names.specs.LinkOfFiles.{IsLinkOf}
use Rattle.proto_names.specs.Linking.{LinkOf}
use Rattle.proto_names_imports.specs.Links.{LinkFaults}

-- files with a link
pub record LinkedFiles : Type 0 where
  pub files : List FileOf
  pub link : LinkOf

-- the files are read, and the link is theirs
pub record AreLinked (l : LinkedFiles) : Type 0 where
  pub reads : List ReadOf
  pub read : AreRead l.files reads
  pub link : IsLinkOf l.files l.link

-- the same, and no import, name or reference of them has a fault
pub record AreCleanLinked (l : LinkedFiles) : Type 0 where
  pub reads : List ReadOf
  pub read : AreRead l.files reads
  pub link : IsLinkOf l.files l.link
  pub clean : HasNoFault (LinkFaults l.files)
