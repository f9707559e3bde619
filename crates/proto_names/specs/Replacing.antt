-- Why a link, and what is made of it, cannot be replaced by those of files.
use Rattle.std.specs.Prelude.{◌⊎◌, List}
use Rattle.proto_base.specs.declared.fault.SchemaFault.{SchemaFault}
use Rattle.proto_files.specs.Faults.{HasNoFault}
use Rattle.proto_files.specs.GivenFiles.{FileOf}
use Rattle.proto_names_imports.specs.LinkErrors.{IsLinkError}
use Rattle.proto_names_imports.specs.Links.{LinkFaults}

-- the least fault of imports, names and references, or out of memory; or there is no such fault,
-- and what is made of the link has one
abbrev pub IsReplaceError : (List FileOf → SchemaFault → Type 0) → List FileOf → SchemaFault → Type 0
IsReplaceError IsRefused files fault =
    IsLinkError files fault ⊎ (HasNoFault (LinkFaults files) × IsRefused files fault)
