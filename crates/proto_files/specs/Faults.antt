-- Faults as a set, and the least of them: by phase, path, offset and number (a choice of this
-- profile).
use Rattle.std.specs.Prelude.{◌≡◌, ℕ}
use Rattle.std.specs.Ordering.{nat_cmp, ordering_then}
use Rattle.std.specs.String.{string_bytes}
use Rattle.std.specs.declared.cmp.Ordering.{Ordering}
use Rattle.std.specs.declared.cmp.Ordering.TheVariants.{Less}
use Rattle.proto_base.specs.declared.fault.FaultKind.{FaultKind}
use Rattle.proto_base.specs.declared.fault.Fault.{Fault}
use Rattle.proto_base.specs.declared.fault.SchemaFault.{SchemaFault}
use Rattle.proto_base.specs.declared.fault.SchemaFault.TheVariants.{Schema, NoMemory}
use Rattle.proto_base.specs.FaultTable.{kind_number, phase_of}
use Rattle.proto_base.specs.Texts.{Path}
use Rattle.proto_files.specs.WorkspacePaths.{path_cmp}

-- a fault of a kind at an offset of the file at a path
pub record FaultAt : Type 0 where
  pub path : Path
  pub offset : ℕ
  pub kind : FaultKind

-- what a fault says
abbrev pub fault_at : Fault → FaultAt
fault_at fault = record { path = string_bytes fault.path; offset = fault.offset; kind = fault.kind }

-- the order of faults: by phase, then path, then offset, then number
abbrev pub fault_cmp : FaultAt → FaultAt → Ordering
fault_cmp x y =
    ordering_then (nat_cmp (phase_of x.kind) (phase_of y.kind))
    (ordering_then (path_cmp x.path y.path)
    (ordering_then (nat_cmp x.offset y.offset) (nat_cmp (kind_number x.kind) (kind_number y.kind))))

-- the first of two faults comes before the second in this order
abbrev pub ComesBefore : FaultAt → FaultAt → Type 0
ComesBefore x y = fault_cmp x y ≡ Less

-- x is one of the faults, and none of them comes before it
pub record IsLeastFault (faults : FaultAt → Type 0) (x : FaultAt) : Type 0 where
  pub is_fault : faults x
  pub is_least : (y : FaultAt) → faults y → ComesBefore y x → ⊥

-- the set of faults is empty
abbrev pub HasNoFault : (FaultAt → Type 0) → Type 0
HasNoFault faults = (y : FaultAt) → faults y → ⊥

-- the error is out of memory, or the least fault
abbrev pub IsFilesError : (FaultAt → Type 0) → SchemaFault → Type 0
IsFilesError faults (Schema fault) = IsLeastFault faults (fault_at fault)
IsFilesError faults NoMemory = Unit {0}
