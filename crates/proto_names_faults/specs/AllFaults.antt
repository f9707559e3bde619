-- All faults of imports, of names and of references, each phase by itself.
use Rattle.std.specs.Prelude.{◌≡◌, ◌↔◌, ◌⊎◌, List}
use Rattle.std.specs.List.{All, AllPairs, Contains}
use Rattle.proto_base.specs.FaultTable.{phase_of}
use Rattle.proto_files.specs.Faults.{ComesBefore, FaultAt}
use Rattle.proto_files.specs.FilesRead.{AreRead, ReadOf}
use Rattle.proto_files.specs.GivenFiles.{FileOf, paths_of}
use Rattle.proto_names_rules.specs.Faults.{Fault, ImportFault, NameFault, ReferenceFault}
use Rattle.proto_names_imports.specs.Links.{FaultStandsAt, LinkFaults, all_wanted, link_skeleton, text_of}

-- these are all the faults, rising by phase, path, offset and number, each once
pub record AreAllOf (faults : FaultAt → Type 0) (listed : List FaultAt) : Type 0 where
  pub rising : AllPairs ComesBefore listed
  pub sound : All faults listed
  pub whole : (x : FaultAt) → faults x → Contains listed x

-- the faults of imports: 10 to 12
pub data ImportFaults (files : List FileOf) : FaultAt → Type 0 where
  import_fault : (reads : List ReadOf) (f : Fault) (x : FaultAt)
      → AreRead files reads → FaultStandsAt files reads f x
      → ImportFault (paths_of files) (all_wanted (text_of files reads) 0 reads) f
      → ImportFaults files x

-- the faults of names: 13
pub data NameFaults (files : List FileOf) : FaultAt → Type 0 where
  name_fault : (reads : List ReadOf) (f : Fault) (x : FaultAt)
      → AreRead files reads → FaultStandsAt files reads f x
      → NameFault (text_of files reads) (link_skeleton files reads).declared f
      → NameFaults files x

-- the faults of references: 14 to 16
pub data ReferenceFaults (files : List FileOf) : FaultAt → Type 0 where
  reference_fault : (reads : List ReadOf) (f : Fault) (x : FaultAt)
      → AreRead files reads → FaultStandsAt files reads f x
      → ReferenceFault (text_of files reads) (link_skeleton files reads) f
      → ReferenceFaults files x

-- ---- laws

-- the faults of a link are those of its imports, of its names and of its references
abbrev pub LinkFaultsAreThese : Type 0
LinkFaultsAreThese =
    (files : List FileOf) (x : FaultAt)
    → LinkFaults files x
    ↔ (ImportFaults files x ⊎ (NameFaults files x ⊎ ReferenceFaults files x))

-- faults of imports are of phase 3, those of names of phase 4, those of references of phase 5
pub record FaultsAreOfPhases : Type 0 where
  pub imports : (files : List FileOf) (x : FaultAt) → ImportFaults files x → phase_of x.kind ≡ 3
  pub names : (files : List FileOf) (x : FaultAt) → NameFaults files x → phase_of x.kind ≡ 4
  pub references : (files : List FileOf) (x : FaultAt) → ReferenceFaults files x
      → phase_of x.kind ≡ 5
