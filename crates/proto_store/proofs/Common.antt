-- What proofs of the crates above name of this crate, passed on from one place. Declares nothing.
pub use Rattle.proto_store.proofs.PathOrder.{differs_if_less, equal_itself, listed_string, same_text}
pub use Rattle.proto_store.proofs.Replaced.{bytes_at-with_bytes, bytes_at-with_bytes-other, is_some-with_bytes, languages_of-with_bytes, paths_of-with_bytes, same_files}
pub use Rattle.proto_store.specs.Stores.{AreInPathOrder, AreOf, Held, HoldsFiles, HoldsGiven, IsListed, ListsPaths, bytes_at, with_bytes, with_file, with_journal}
