-- Flaws: faults by the file and the token that they stand at, before they have a path and an
-- offset.
use Rattle.std.specs.Prelude.{◌≡◌, ◌↔◌, ◌⊎◌, ℕ, Bool, if◌then◌else◌, List, [], ◌∷◌, ◌++◌, length, get_or, map, Option, Some, None}
use Rattle.std.specs.List.{AllPairs, Contains}
use Rattle.proto_base.specs.FaultTable.{kind_number}
use Rattle.proto_base.specs.declared.fault.Fault.{Fault as FoundFault}
use Rattle.proto_base.specs.declared.fault.FaultKind.{FaultKind}
use Rattle.proto_files.specs.Faults.{ComesBefore, FaultAt, fault_at}
use Rattle.proto_files.specs.FileTokens.{StandsAtToken}
use Rattle.proto_files.specs.FilesRead.{Each}
use Rattle.proto_files.specs.GivenFiles.{FileOf}
use Rattle.proto_names_rules.specs.Faults.{Fault, fault}
use Rattle.proto_names_rules.specs.Grown.{at}
use Rattle.proto_names_faults.specs.declared.flaw.Flaw.{Flaw}

-- a flaw as a fault at a token
abbrev pub fault_of_flaw : Flaw → Fault
fault_of_flaw w = fault (at w.file w.token) (kind_number w.kind)

-- the flaw of this kind at a token, if there is a kind
abbrev pub flaw_if : ℕ → ℕ → Option FaultKind → List Flaw
flaw_if file token None = []
flaw_if file token (Some kind) = record { file = file; token = token; kind = kind } ∷ []

-- the kind, if it is so
abbrev pub kind_if : Bool → FaultKind → Option FaultKind
kind_if is_so kind = if is_so then Some kind else None

-- the flaws are the faults of which the sentence holds, in whatever order and however often
abbrev pub AreFlawsOf : (Fault → Type 0) → List Flaw → Type 0
AreFlawsOf Says flaws = (f : Fault) → Contains (map fault_of_flaw flaws) f ↔ Says f

-- the flaws that were added are the faults of which the sentence holds
abbrev pub AreAdded : (Fault → Type 0) → List Flaw → List Flaw → Type 0
AreAdded Says old new =
    (f : Fault)
    → Contains (map fault_of_flaw new) f ↔ (Contains (map fault_of_flaw old) f ⊎ Says f)

-- the fault stands where the flaw does
abbrev pub StandsAtFlaw : List FileOf → Flaw → FaultAt → Type 0
StandsAtFlaw files w x = StandsAtToken files w.file w.token w.kind x

-- the fault that stands where the flaw does was added
abbrev pub AddsThere : List FileOf → Flaw → List FoundFault → List FoundFault → Type 0
AddsThere files w old new =
    (x : FoundFault) × (new ≡ old ++ x ∷ []) × StandsAtFlaw files w (fault_at x)

-- for each flaw, the fault that stands there
pub record AreLocated (files : List FileOf) (flaws : List Flaw) (faults : List FoundFault)
    : Type 0 where
  pub count : length faults ≡ length flaws
  pub each : Each (λ k x. (w : Flaw) → StandsAtFlaw files (get_or flaws k w) (fault_at x)) faults

-- these are the faults that stand at the flaws, rising, each once
pub record AreListed (files : List FileOf) (flaws : List Flaw) (listed : List FaultAt)
    : Type 0 where
  pub rising : AllPairs ComesBefore listed
  pub same : (x : FaultAt)
      → Contains listed x ↔ ((w : Flaw) × Contains flaws w × StandsAtFlaw files w x)
