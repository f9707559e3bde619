-- What is answered where files do not link.
use Rattle.std.specs.Prelude.{List}
use Rattle.proto_files.specs.Faults.{IsLeastFault, fault_at}
use Rattle.proto_files.specs.GivenFiles.{FileOf}
use Rattle.proto_names_imports.specs.Links.{LinkFaults}
use Rattle.proto_base.specs.declared.fault.SchemaFault.{SchemaFault}
use Rattle.proto_base.specs.declared.fault.SchemaFault.TheVariants.{Schema, NoMemory}

-- the error is out of memory, or the least fault of the files
abbrev pub IsLinkError : List FileOf → SchemaFault → Type 0
IsLinkError files (Schema f) = IsLeastFault (LinkFaults files) (fault_at f)
IsLinkError files NoMemory = Unit {0}
