-- What proofs of this crate name of its own definitions, passed on from one place.
-- Declares nothing.
pub use Rattle.proto_store.specs.Memory.{MemoryOf, files_in}
pub use Rattle.proto_store.specs.Stores.{AreInPathOrder, bytes_at, with_bytes}
