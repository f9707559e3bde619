-- What proofs of this crate name of its own definitions, passed on from one place.
-- Declares nothing.
pub use Rattle.proto_desc_checks.specs.FieldFlaws.{default_flaws, field_flaws, flaws_of_extension, has_closed_enum, holds_number, is_default_of, is_scalar_default, lacks_label, map_key_flaws, may_default, misplaced_options, no_map_keys, option_flaws, misfit_flaws, proto3_defaults, repeated_options, required_extensions, required_flaws, signed_32, signed_64, starts_wrong, type_flaws, type_token, unsigned_32, unsigned_64, wrong_default, is_misfit}
pub use Rattle.proto_desc_checks.specs.FileFlaws.{alias_flaws, allows_alias, bars_extend, block_flaws, enum_flaws, extend_flaws, extension_flaws, file_flaws, first_value_flaws, flaws_in_blocks, is_empty, is_of_options, json_clashes, message_flaws, name_flaws, reserved_again, value_number_flaws, value_option_flaws, with_reserved_name}
