-- What proofs of this crate name of its own definitions, and of those of blocks, passed on from one
-- place.
-- Declares nothing.
pub use Rattle.proto_resolved.specs.Blocks.{block_of, extend_block, holders_in, may_hold, oneof_block}
pub use Rattle.proto_edit_rename.specs.Members.{IsReadAs, fields_by, has_field, has_member, has_value, holds_value, name_token, reserves, says_word}
