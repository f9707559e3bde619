-- What proofs of this crate name of its own definitions, passed on from one place.
-- Declares nothing.
pub use Rattle.proto_resolved.specs.Blocks.{block_of, enum_block, extend_block, holders_in, may_hold, message_block, oneof_block}
pub use Rattle.proto_resolved.specs.Enums.{AreEnumsOf, IsEnumTable, IsEnumTableOf, IsEnumTableOfListed, enum_among, enum_in, enum_of_row, enum_row_at, listed_enum_at, marked_enum_at}
pub use Rattle.proto_resolved.specs.Meanings.{HasEnumsMeant, enum_of_name, meant_in_table}
pub use Rattle.proto_resolved.specs.SceneOf.{enum_at, enum_named, enum_within, is_enum_at, is_proto3_file, lexemes_of, meaning_of, means_of, meant_as, scene_of}
pub use Rattle.proto_resolved.specs.declared.enum_table.EnumRow.{EnumRow}
pub use Rattle.proto_resolved.specs.declared.enum_table.EnumTable.{EnumTable}
