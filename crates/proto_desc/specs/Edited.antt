-- What descriptors are of files, and what they were before some of these were edited.
use Rattle.std.specs.Prelude.{ℕ, List}
use Rattle.proto_desc.specs.Checked.{AreDescribed, CheckFaults}
use Rattle.proto_desc.specs.Views.{files_desc, files_kept}
use Rattle.proto_desc.specs.Whole.{FileFaults}
use Rattle.proto_desc.specs.declared.descriptors.Descriptors.{Descriptors}
use Rattle.proto_files.specs.Faults.{HasNoFault}
use Rattle.proto_files.specs.FilesRead.{AreRead, ReadOf}
use Rattle.proto_files.specs.GivenFiles.{FileOf}
use Rattle.proto_desc_affected.specs.Checked.{AreKeptOf}
use Rattle.proto_names_update.specs.Edited.{AreSameBut}

-- these are the descriptors of the files, with what is kept of each
pub record AreDescriptorsOf (files : List FileOf) (d : Descriptors) : Type 0 where
  pub described : AreDescribed files (files_desc d)
  pub kept : AreKeptOf files (files_kept d)

-- so they are, and the checks find no fault in the files
abbrev pub AreCheckedDescriptors : List FileOf → Descriptors → Type 0
AreCheckedDescriptors files d = AreDescriptorsOf files d × HasNoFault (CheckFaults files)

-- the descriptors of files that are read and have no fault
pub record AreCleanlyDescribed (files : List FileOf) (d : Descriptors) : Type 0 where
  pub descriptors : AreDescriptorsOf files d
  pub clean : HasNoFault (FileFaults files)
  pub reads : List ReadOf
  pub read : AreRead files reads

-- they were the descriptors of files without a fault, which had other bytes at these places
abbrev pub WereDescribed : List FileOf → List ℕ → Descriptors → Type 0
WereDescribed files places d =
    (before : List FileOf) × AreCleanlyDescribed before d × AreSameBut places before files
