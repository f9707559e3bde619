-- The faults of files that are given as a workspace, in whatever order.
use Rattle.std.specs.Prelude.{List, AllPairs, IsPermutation}
use Rattle.proto_desc.specs.Checked.{CheckFaults}
use Rattle.proto_files.specs.Faults.{FaultAt}
use Rattle.proto_files.specs.GivenFiles.{FileOf, paths_of}
use Rattle.proto_files.specs.PathFaults.{PathFaults}
use Rattle.proto_files.specs.ReadFaults.{ReadFaults}
use Rattle.proto_files.specs.WorkspacePaths.{IsBefore}
use Rattle.proto_names_imports.specs.Links.{LinkFaults}

-- the files given, in the order of their paths, which are apart
pub record IsSortedOf (given files : List FileOf) : Type 0 where
  pub same : IsPermutation given files
  pub ordered : AllPairs (λ f g. IsBefore f.path g.path) files

-- the faults of files in order: of texts and the grammar, of imports, names and references, and of
-- checks
pub data FileFaults (files : List FileOf) : FaultAt → Type 0 where
  of_read : (x : FaultAt) → ReadFaults files x → FileFaults files x
  of_link : (x : FaultAt) → LinkFaults files x → FileFaults files x
  of_check : (x : FaultAt) → CheckFaults files x → FileFaults files x

-- the faults of the files given: of their paths, and of the files in order (a later phase counts
-- only where no earlier one has a fault: the least fault is by phase first)
pub data WorkspaceFaults (given : List FileOf) : FaultAt → Type 0 where
  of_path : (x : FaultAt) → PathFaults 4096 (paths_of given) x → WorkspaceFaults given x
  of_files : (files : List FileOf) (x : FaultAt) → IsSortedOf given files
      → FileFaults files x → WorkspaceFaults given x
