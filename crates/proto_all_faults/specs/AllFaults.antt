-- All faults of the first phase of a workspace that has one.
use Rattle.std.specs.Prelude.{ℕ, ◌<◌, ◌≤◌, List, length, Option}
use Rattle.std.specs.List.{Contains}
use Rattle.proto_base.specs.FaultTable.{phase_of}
use Rattle.proto_files.specs.Faults.{FaultAt}
use Rattle.proto_files.specs.FilesRead.{AreRead, ReadOf}
use Rattle.proto_files.specs.GivenFiles.{FileOf, paths_of}
use Rattle.proto_files.specs.PathFaults.{PathFaults}
use Rattle.proto_files.specs.ReadFaults.{ReadFaults}
use Rattle.proto_names_imports.specs.Links.{LinkFaults}
use Rattle.proto_desc_numbers.specs.declared.flaw.Flaw.{Flaw}
use Rattle.proto_desc_extensions.specs.Extensions.{all_flaws}
use Rattle.proto_desc.specs.Checked.{fault_of_flaw}
use Rattle.proto_desc.specs.Whole.{IsSortedOf}

-- the faults of the first phase that has one: no fault is of an earlier phase
abbrev pub FirstPhase : (FaultAt → Type 0) → FaultAt → Type 0
FirstPhase faults x =
    faults x × ((y : FaultAt) → faults y → phase_of x.kind ≤ phase_of y.kind)

-- ---- faults, with numbers up to a cap

-- the faults of the checks of all files, with numbers up to a cap, if there is one: a number past
-- it counts as the cap
pub data CheckFaultsUpTo (cap : Option ℕ) (files : List FileOf) : FaultAt → Type 0 where
  of_flaw : (reads : List ReadOf) (file : ℕ) (f : Flaw) → AreRead files reads
      → file < length files → Contains (all_flaws cap files reads file) f
      → CheckFaultsUpTo cap files (fault_of_flaw files reads file f)

-- the faults of files in order, as `FileFaults`; in those of checks numbers are up to a cap
pub data FileFaultsUpTo (cap : Option ℕ) (files : List FileOf) : FaultAt → Type 0 where
  of_read : (x : FaultAt) → ReadFaults files x → FileFaultsUpTo cap files x
  of_link : (x : FaultAt) → LinkFaults files x → FileFaultsUpTo cap files x
  of_check : (x : FaultAt) → CheckFaultsUpTo cap files x → FileFaultsUpTo cap files x

-- the faults of the files given, as `WorkspaceFaults`; in those of checks numbers are up to a cap
pub data FaultsUpTo (cap : Option ℕ) (given : List FileOf) : FaultAt → Type 0 where
  of_path : (x : FaultAt) → PathFaults 4096 (paths_of given) x → FaultsUpTo cap given x
  of_files : (files : List FileOf) (x : FaultAt) → IsSortedOf given files
      → FileFaultsUpTo cap files x → FaultsUpTo cap given x
