-- What is answered where files do not compile, and what holds of them once they are read.
use Rattle.std.specs.Prelude.{◌≡◌, List, IsPermutation}
use Rattle.proto_files.specs.Faults.{HasNoFault, IsLeastFault, fault_at}
use Rattle.proto_files.specs.GivenFiles.{AreWorkspaceFiles, FileOf, paths_of}
use Rattle.proto_files.specs.PathFaults.{PathFaults}
use Rattle.proto_files.specs.ReadFaults.{ReadFaults}
use Rattle.proto_base.specs.declared.fault.Fault.{Fault}
use Rattle.proto_base.specs.declared.fault.SchemaFault.{SchemaFault}
use Rattle.proto_desc.specs.Whole.{WorkspaceFaults}
use Rattle.proto_base.specs.declared.fault.SchemaFault.TheVariants.{Schema, NoMemory}

-- the error is out of memory, or the least fault of the files given
abbrev pub IsOpenError : List FileOf → SchemaFault → Type 0
IsOpenError given (Schema f) = IsLeastFault (WorkspaceFaults given) (fault_at f)
IsOpenError given NoMemory = Unit {0}

-- these are the files given, in order, and neither their paths nor their texts have a fault
pub record AreReadOf (given files : List FileOf) : Type 0 where
  pub named : HasNoFault (PathFaults 4096 (paths_of given))
  pub same : IsPermutation given files
  pub workspace : AreWorkspaceFiles files
  pub clean : HasNoFault (ReadFaults files)

-- ---- whoever opens the same files, with descriptors or without, answers the same

-- no two faults are answered of the same files
abbrev pub OneOpenFault : Type 0
OneOpenFault =
    (given : List FileOf) (f g : Fault) → IsOpenError given (Schema f)
    → IsOpenError given (Schema g) → fault_at f ≡ fault_at g

-- none is answered of files that compile
abbrev pub NoOpenFault : Type 0
NoOpenFault =
    (given : List FileOf) (f : Fault) → HasNoFault (WorkspaceFaults given)
    → IsOpenError given (Schema f) → ⊥
