-- What proofs of this crate name of its own definitions, passed on from one place.
-- Declares nothing.
pub use Rattle.proto_lint_names.specs.BlockFinds.{block_finds, block_messages, file_messages, messages_from}
pub use Rattle.proto_lint_names.specs.Blocks.{Scoped, scoped_blocks, scope_within}
pub use Rattle.proto_lint_names.specs.Walks.{outer_messages, walk_finds}
pub use Rattle.proto_lint_names.specs.declared.walk.Walk.{Walk}
