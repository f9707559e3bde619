-- Files without a fault of each phase have none.
use Rattle.std.proofs.Common.{List}
use Rattle.proto_desc.proofs.Common.{CheckFaults, FileFaults, of_check, of_link, of_read}
use Rattle.proto_files.specs.Faults.{HasNoFault}
use Rattle.proto_files.specs.GivenFiles.{FileOf}
use Rattle.proto_files.specs.ReadFaults.{ReadFaults}
use Rattle.proto_names_imports.specs.Links.{LinkFaults}

pub no_fault : (files : List FileOf) → HasNoFault (ReadFaults files) → HasNoFault (LinkFaults files) → HasNoFault (CheckFaults files) → HasNoFault (FileFaults files)
no_fault files read linked checked y (of_read z h) = read y h
no_fault files read linked checked y (of_link z h) = linked y h
no_fault files read linked checked y (of_check z h) = checked y h
