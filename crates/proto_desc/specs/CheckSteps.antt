-- What is said of one file as its checks go on.
use Rattle.std.specs.Prelude.{◌≡◌, ℕ, List, Some}
use Rattle.std.specs.List.{Contains}
use Rattle.proto_files.specs.Faults.{fault_at}
use Rattle.proto_files.specs.GivenFiles.{FileOf}
use Rattle.proto_files.specs.FilesRead.{ReadOf, AreRead}
use Rattle.proto_ast.specs.Numbers.{past}
use Rattle.proto_desc_numbers.specs.Flaws.{IsLeastOfFlaws}
use Rattle.proto_desc_numbers.specs.declared.flaw.Flaw.{Flaw}
use Rattle.proto_desc_extensions.specs.Extensions.{workspace_flaws}
use Rattle.proto_desc.specs.Checked.{fault_of_flaw, flaws_of}
use Rattle.proto_base.specs.declared.fault.SchemaFault.{SchemaFault}
use Rattle.proto_base.specs.declared.fault.SchemaFault.TheVariants.{Schema, NoMemory}

-- the checks find nothing in the file at a place, counted from 0
abbrev pub HasNoFlaw : List FileOf → ℕ → Type 0
HasNoFlaw files file =
    (reads : List ReadOf) → AreRead files reads
    → (f : Flaw) → Contains (flaws_of files reads file) f → ⊥

-- these are the flaws of the file at a place that its workspace decides, with numbers up to a cap
-- past every limit
abbrev pub AreOfWorkspace : List FileOf → ℕ → List Flaw → Type 0
AreOfWorkspace files file flaws =
    (reads : List ReadOf) → AreRead files reads
    → flaws ≡ workspace_flaws (Some past) files reads file

-- the error is out of memory, or the flaw as a fault of the file
abbrev pub IsFaultOf : List FileOf → ℕ → Flaw → SchemaFault → Type 0
IsFaultOf files file f (Schema fault) =
    (reads : List ReadOf) → AreRead files reads → fault_at fault ≡ fault_of_flaw files reads file f
IsFaultOf files file f NoMemory = Unit {0}

-- the fault is the file's least flaw, by token and then by number
pub record IsLeastFlaw (files : List FileOf) (file : ℕ) (e : SchemaFault) : Type 0 where
  pub flaw : Flaw
  pub fault : IsFaultOf files file flaw e
  pub least : (reads : List ReadOf) → AreRead files reads
      → IsLeastOfFlaws (Contains (flaws_of files reads file)) (Some flaw)

-- the error is out of memory, or the file's least flaw as a fault
abbrev pub IsLeastFlawError : List FileOf → ℕ → SchemaFault → Type 0
IsLeastFlawError files file (Schema fault) = IsLeastFlaw files file (Schema fault)
IsLeastFlawError files file NoMemory = Unit {0}
