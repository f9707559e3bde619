-- Laws of the faults that are listed, for the layers above.
use Rattle.std.specs.Prelude.{◌≡◌, ◌↔◌, ◌⊎◌, ◌<◌, List, [], ◌∷◌, Some}
use Rattle.proto_base.specs.FaultTable.{kind_number, phase_of}
use Rattle.proto_files.specs.Faults.{FaultAt, HasNoFault, IsLeastFault}
use Rattle.proto_files.specs.GivenFiles.{FileOf}
use Rattle.proto_ast.specs.Numbers.{past}
use Rattle.proto_names_faults.specs.AllFaults.{AreAllOf}
use Rattle.proto_desc.specs.Whole.{WorkspaceFaults}
use Rattle.proto_all_faults.specs.AllFaults.{FaultsUpTo, FirstPhase}

-- these are all the faults of the first phase of the files given that has one, rising, each once;
-- a number of 2^64 or more counts as 2^64
abbrev pub AreAllFaults : List FileOf → List FaultAt → Type 0
AreAllFaults given listed = AreAllOf (FirstPhase (FaultsUpTo (Some past) given)) listed

-- The first fault that is listed is the least fault.
abbrev pub FirstIsLeast : Type 0
FirstIsLeast =
    (given : List FileOf) (x : FaultAt) (rest : List FaultAt) → AreAllFaults given (x ∷ rest)
    → IsLeastFault (WorkspaceFaults given) x

-- None is listed exactly where there is none.
abbrev pub NoneIsListed : Type 0
NoneIsListed =
    (given : List FileOf) (listed : List FaultAt) → AreAllFaults given listed
    → (listed ≡ []) ↔ HasNoFault (WorkspaceFaults given)

-- one of the faults has the place of x and a lower number, in the same phase
pub record HasLower (faults : FaultAt → Type 0) (x : FaultAt) : Type 0 where
  pub lower : FaultAt
  pub is_fault : faults lower
  pub path : lower.path ≡ x.path
  pub offset : lower.offset ≡ x.offset
  pub phase : phase_of lower.kind ≡ phase_of x.kind
  pub number : kind_number lower.kind < kind_number x.kind

-- With numbers up to 2^64 the faults are the same, but for those at whose place one with a lower
-- number stands: another fault at a number of 2^64 or more, where 17 NumberRange stands at any rate.
pub record CapsKeepAllElse : Type 0 where
  pub forth : (given : List FileOf) (x : FaultAt) → FaultsUpTo (Some past) given x
      → WorkspaceFaults given x ⊎ HasLower (WorkspaceFaults given) x
  pub back : (given : List FileOf) (x : FaultAt) → WorkspaceFaults given x
      → FaultsUpTo (Some past) given x ⊎ HasLower (FaultsUpTo (Some past) given) x
