-- What proofs of this crate name of its own definitions, passed on from one place.
-- Declares nothing.
pub use Rattle.proto_desc_extensions.specs.ExtendedTables.{AreExtendedRows, AreRowsOfFiles, Extending, block_extending, extended_row, extending, extending_of, file_extending, first_extended, meant_text, told_text}
pub use Rattle.proto_desc_extensions.specs.Extends.{has_extend, is_extend, some_has_extend}
pub use Rattle.proto_desc_extensions.specs.Extensions.{ExtensionOf, all_flaws, are_same, block_extensions, custom_flaws, extended_at, extended_by, extendee_in, extendee_meant, extensions_before, extensions_in, extensions_of, has_extension_at, is_an_option, is_extendable, is_message_at, is_the_message, name_meant, not_an_option, not_extendable, number_flaws, option_extends, extension_ranges_at, ranges_at_place, ranges_named, ranges_within, repeated_extensions, taken_before, workspace_flaws}
pub use Rattle.proto_desc_extensions.specs.Listed.{AreExtensionsOf, AreNumberFlaws, AreWorkspaceFlaws, HasSeen, IsExtendee, Told, again, are_one, is_key_of, is_same_key, outside_ranges, told, told_by, told_number}
pub use Rattle.proto_desc_extensions.specs.OpenTables.{AreRowsOf, IsOpenTable, IsRangeRowOf, index_in, index_of_row}
pub use Rattle.proto_desc_extensions.specs.Options.{IsOfOneWord, IsPlaceMeant, is_as_written, is_written}
pub use Rattle.proto_desc_extensions.specs.declared.extended_table.Extended.{Extended}
pub use Rattle.proto_desc_extensions.specs.declared.extended_table.PlaceAt.{PlaceAt}
pub use Rattle.proto_desc_extensions.specs.declared.flaws.Key.{Key}
pub use Rattle.proto_desc_extensions.specs.declared.listed.Extendee.{Extendee}
pub use Rattle.proto_desc_extensions.specs.declared.listed.ExtensionAt.{ExtensionAt}
