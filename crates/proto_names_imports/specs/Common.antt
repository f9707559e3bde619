-- What proofs of this crate name of its own definitions, passed on from one place.
-- Declares nothing.
pub use Rattle.proto_names_imports.specs.ImportSteps.{AreImporters, AreTurned, CycleFault, IsFileIndex, IsFirst, LeadsToItself, MarkedFault, NoneLeadsBack, PathFault, cycle, double, unknown}
pub use Rattle.proto_names_imports.specs.Importing.{TokensAreRising, all_asked, all_imports, asked_by, fault_of, import_from}
pub use Rattle.proto_names_imports.specs.Walks.{IsMarked, Walks, goes, stays}
pub use Rattle.proto_names_imports.specs.declared.import.FileImport.{FileImport}
pub use Rattle.proto_names_imports.specs.declared.import.WrittenImport.{WrittenImport}
