-- The faults of checks, and the descriptors of a workspace that has no fault.
use Rattle.std.specs.Prelude.{◌≡◌, ℕ, ◌<◌, List, length, map, None}
use Rattle.std.specs.List.{Contains}
use Rattle.proto_text.specs.Texts.{offset_at}
use Rattle.proto_files.specs.Faults.{FaultAt, IsLeastFault, fault_at}
use Rattle.proto_files.specs.GivenFiles.{FileOf, file_at}
use Rattle.proto_files.specs.FilesRead.{ReadOf, AreRead, read_at}
use Rattle.proto_names_rules.specs.Grown.{numbered}
use Rattle.proto_desc_extensions.specs.Extensions.{all_flaws}
use Rattle.proto_desc_numbers.specs.declared.flaw.Flaw.{Flaw}
use Rattle.proto_desc_build.specs.Described.{file_described}
use Rattle.proto_descriptors.specs.Descriptors.{FileDesc}
use Rattle.proto_resolved.specs.SceneOf.{scene_of}
use Rattle.proto_base.specs.declared.fault.SchemaFault.{SchemaFault}
use Rattle.proto_base.specs.declared.fault.SchemaFault.TheVariants.{Schema, NoMemory}

-- a flaw as a fault of the file at an offset
abbrev pub fault_of_flaw : List FileOf → List ReadOf → ℕ → Flaw → FaultAt
fault_of_flaw files reads file f = record {
  path = (file_at files file).path;
  offset = offset_at (read_at reads file).tokens f.token;
  kind = f.kind;
}

-- the faults of the checks of all files (they count where no import, name or reference has a fault:
-- the least fault is by phase first)
pub data CheckFaults (files : List FileOf) : FaultAt → Type 0 where
  of_flaw : (reads : List ReadOf) (file : ℕ) (f : Flaw) → AreRead files reads
      → file < length files → Contains (all_flaws None files reads file) f
      → CheckFaults files (fault_of_flaw files reads file f)

-- the descriptors of the files, in the order of their paths
abbrev pub described : List FileOf → List ReadOf → List FileDesc
described files reads =
    map (λ p. file_described (scene_of None files reads p.0) (file_at files p.0).path p.1.tree)
    (numbered 0 reads)

-- those of the files from this number on
abbrev pub described_from : List FileOf → List ReadOf → ℕ → List ReadOf → List FileDesc
described_from files reads file rs =
    map (λ p. file_described (scene_of None files reads p.0) (file_at files p.0).path p.1.tree)
    (numbered file rs)

-- what is wrong with a file of the workspace
abbrev pub flaws_of : List FileOf → List ReadOf → ℕ → List Flaw
flaws_of files reads file = all_flaws None files reads file

-- these are the descriptors of the files, in the order of their paths
abbrev pub AreDescribed : List FileOf → List FileDesc → Type 0
AreDescribed files ds = (reads : List ReadOf) → AreRead files reads → ds ≡ described files reads

-- ---- what is answered where checks fail

-- the error is out of memory, or the least fault of the files
abbrev pub IsCheckError : List FileOf → SchemaFault → Type 0
IsCheckError files (Schema f) = IsLeastFault (CheckFaults files) (fault_at f)
IsCheckError files NoMemory = Unit {0}
