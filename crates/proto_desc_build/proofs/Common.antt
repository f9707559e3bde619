-- What proofs of the crates above name of this crate, passed on from one place. Declares nothing.
pub use Rattle.proto_desc_build.proofs.Levels.{messages_then, described_all, described_more, described_none, described_turn, enums_joined, extensions_joined, services_joined}
pub use Rattle.proto_desc_build.specs.Described.{enums_described, extensions_described, messages_described, services_described}
