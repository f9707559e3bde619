-- What proofs of this crate name of its own definitions, passed on from one place.
-- Declares nothing.
pub use Rattle.proto_names_faults.specs.AllFaults.{AreAllOf, FaultsAreOfPhases, ImportFaults, LinkFaultsAreThese, NameFaults, ReferenceFaults, import_fault, name_fault, reference_fault}
pub use Rattle.proto_names_faults.specs.Clashes.{AreOfOneName, IsClash, NameAt, is_other_named, is_package_named, name_at, shown, text_above}
pub use Rattle.proto_names_faults.specs.Flaws.{AddsThere, AreAdded, AreFlawsOf, AreListed, AreLocated, StandsAtFlaw, fault_of_flaw, flaw_if, kind_if}
pub use Rattle.proto_names_faults.specs.Imports.{IsCycle, IsCycleBefore, IsCycleIn, IsDouble, IsFlawOf, IsImportBefore, IsImportIn, IsUnknown, MarksCycles}
pub use Rattle.proto_names_faults.specs.NamesOfFiles.{AreFileRows, AreRowsOf}
pub use Rattle.proto_names_faults.specs.Resolving.{IsFaultBefore, IsFaultIn, IsKindOf, IsListedFault, enum_fault, kind_fault, kind_in, type_fault}
pub use Rattle.proto_names_faults.specs.declared.flaw.Flaw.{Flaw}
pub use Rattle.proto_names_faults.specs.declared.full_names.NamedText.{NamedText}
