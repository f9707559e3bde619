-- Files that compile.
use Rattle.std.specs.Prelude.{ℕ, List}
use Rattle.proto_base.specs.Texts.{Path}
use Rattle.proto_base.specs.declared.fault.FaultKind.{FaultKind}
use Rattle.proto_files.specs.Faults.{FaultAt, HasNoFault}
use Rattle.proto_files.specs.GivenFiles.{FileOf, AreWorkspaceFiles}
use Rattle.proto_desc.specs.Whole.{FileFaults}

-- files of a workspace, in the order of their paths, that have no fault
pub record AreCompiled (files : List FileOf) : Type 0 where
  pub workspace : AreWorkspaceFiles files
  pub clean : HasNoFault (FileFaults files)

-- the fault of a kind at an offset of the file at a path
abbrev pub fault_of_kind : Path → ℕ → FaultKind → FaultAt
fault_of_kind path offset k = record { path = path; offset = offset; kind = k }
