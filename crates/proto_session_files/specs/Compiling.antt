-- The workspace of files.
use Rattle.std.specs.Prelude.{Bool, true, false, List, Option, Some, None}
use Rattle.proto_base.specs.GivenFiles.{FileOf}
use Rattle.proto_files.specs.Faults.{HasNoFault}
use Rattle.proto_desc.specs.Whole.{IsSortedOf, WorkspaceFaults}

-- files without a fault have this workspace
abbrev pub IsWorkspaceOf : List FileOf → Option (List FileOf) → Type 0
IsWorkspaceOf files None = ⊥
IsWorkspaceOf files (Some w) = IsSortedOf files w × HasNoFault (WorkspaceFaults files)

-- whether files compile: their workspace is there then
abbrev pub IsBrought : List FileOf → Option (List FileOf) → Bool → Type 0
IsBrought files good true = IsWorkspaceOf files good
IsBrought files good false = HasNoFault (WorkspaceFaults files) → ⊥
