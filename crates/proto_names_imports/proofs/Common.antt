-- What proofs of the crates above name of this crate, passed on from one place. Declares nothing.
pub use Rattle.proto_names_imports.proofs.FaultPlaces.{import_found, name_found, reference_found}
pub use Rattle.proto_names_imports.proofs.FileUses.{use_from, use_in}
pub use Rattle.proto_names_imports.proofs.ImportGraph.{IsGraph, all_within, contains_filtered, graph_of, import_in, import_of_file, targets_twice, within_map}
pub use Rattle.proto_names_imports.proofs.LeastLinkFault.{least_import, least_name, least_reference, link_error, no_fault}
pub use Rattle.proto_names_imports.proofs.PlainNames.{name_in, names_are_plain, plain_join}
pub use Rattle.proto_names_imports.proofs.SeenFiles.{imports_within, pushed}
pub use Rattle.proto_names_imports.proofs.Turned.{contains_within, take_more}
pub use Rattle.proto_names_imports.proofs.Walks.{marked_within}
pub use Rattle.proto_names_imports.specs.ImportSteps.{IsFileIndex}
pub use Rattle.proto_names_imports.specs.Importing.{TokensAreRising, IsImportError, all_asked, all_imports, asked_by, fault_of, import_from, import_flaw_number}
pub use Rattle.proto_names_imports.specs.LinkErrors.{IsLinkError}
pub use Rattle.proto_names_imports.specs.Links.{AreListings, IsListing, LinkFaults, FaultStandsAt, all_wanted, asked_as, link_imports, link_skeleton, names_in, names_of_files, of_import, of_name, of_reference, text_of, used_named, uses_of}
pub use Rattle.proto_names_imports.specs.Walks.{IsMarked, Walks, goes, stays}
pub use Rattle.proto_names_imports.specs.Written.{AreWritten}
