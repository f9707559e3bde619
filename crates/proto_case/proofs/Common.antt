-- What proofs of the crates above name of this crate, passed on from one place. Declares nothing.
pub use Rattle.proto_case.proofs.EntryNames.{entry_differs}
pub use Rattle.proto_case.specs.Camel.{entry_name}
