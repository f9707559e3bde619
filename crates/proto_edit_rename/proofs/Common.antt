-- What proofs of the crates above name of this crate, passed on from one place. Declares nothing.
pub use Rattle.proto_resolved.proofs.Holders.{given_by_holders}
pub use Rattle.proto_resolved.specs.Blocks.{block_of, holders_in, may_hold}
pub use Rattle.proto_edit_rename.specs.Members.{IsReadAs, clash_in, fields_by, fields_clash, is_made, is_other, is_unwritten}
