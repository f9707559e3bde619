-- What is known of faults as they are found.
use Rattle.std.specs.Prelude.{◌≡◌, ℕ, zero, suc, List, [], ◌∷◌, ◌++◌, map, Option, Some, None, IsPermutation}
use Rattle.std.specs.List.{Contains}
use Rattle.proto_base.specs.declared.fault.Fault.{Fault}
use Rattle.proto_base.specs.declared.fault.FaultKind.{FaultKind}
use Rattle.proto_base.specs.declared.fault.SchemaFault.{SchemaFault}
use Rattle.proto_base.specs.declared.fault.SchemaFault.TheVariants.{Schema}
use Rattle.proto_files.specs.Faults.{FaultAt, HasNoFault, fault_at}
use Rattle.proto_files.specs.FilesRead.{ReadOf}
use Rattle.proto_files.specs.GivenFiles.{AreWorkspaceFiles, FileOf, paths_of}
use Rattle.proto_files.specs.PathFaults.{PathFaults}
use Rattle.proto_files.specs.Reading.{HasNone, IsOnlyFault}
use Rattle.proto_desc_extensions.specs.Extensions.{all_flaws}
use Rattle.proto_desc.specs.Checked.{fault_of_flaw}

-- these are the files given, in the order of their paths, which have no fault
pub record AreSortedOf (given files : List FileOf) : Type 0 where
  pub named : HasNoFault (PathFaults 4096 (paths_of given))
  pub same : IsPermutation given files
  pub workspace : AreWorkspaceFiles files

-- the paths of the files given have no fault, so that there is an order of them
abbrev pub HasSorted : List FileOf → Type 0
HasSorted given = (files : List FileOf) × AreSortedOf given files

-- these are the faults, in whatever order and however often
pub record AreFound (faults : FaultAt → Type 0) (found : List FaultAt) : Type 0 where
  pub sound : (x : FaultAt) → Contains found x → faults x
  pub whole : (x : FaultAt) → faults x → Contains found x

-- the one fault of its phase that a file has, if it has one
abbrev pub IsFaultIfAny : (FileOf → ℕ → FaultKind → Type 0) → FileOf → Option FaultAt → Type 0
IsFaultIfAny says file None = HasNone says file
IsFaultIfAny says file (Some x) = IsOnlyFault says file x

-- a fault, if there is one, as a list
abbrev pub as_list : Option FaultAt → List FaultAt
as_list None = []
as_list (Some x) = x ∷ []

-- the error is a fault, and that was added
abbrev pub IsAdded : SchemaFault → List FaultAt → List FaultAt → Type 0
IsAdded e old new = (f : Fault) × (e ≡ Schema f) × (new ≡ old ++ fault_at f ∷ [])

-- the one fault of its phase that a file has was added, if it has one
abbrev pub AddsIfAny : (FileOf → ℕ → FaultKind → Type 0) → FileOf → List FaultAt → List FaultAt
    → Type 0
AddsIfAny says file old new =
    (x : Option FaultAt) × IsFaultIfAny says file x × (new ≡ old ++ as_list x)

-- the flaws of the file at a place as faults, with numbers up to a cap
abbrev pub faults_in : Option ℕ → List FileOf → List ReadOf → ℕ → List FaultAt
faults_in cap files reads file =
    map (fault_of_flaw files reads file) (all_flaws cap files reads file)

-- the flaws of the first files, so many, as faults
abbrev pub faults_before : Option ℕ → List FileOf → List ReadOf → ℕ → List FaultAt
faults_before cap files reads zero = []
faults_before cap files reads (suc file) =
    faults_before cap files reads file ++ faults_in cap files reads file
