-- What proofs of the crates above name of this crate, passed on from one place. Declares nothing.
pub use Rattle.proto_desc_checks.proofs.FlawTokens.{aft, fore}
pub use Rattle.proto_desc_checks.specs.FieldFlaws.{asks_js_type, asks_lazy, default_flaws, enum_of_type, field_flaws, flaws_of_extension, has_closed_enum, holds_number, is_default_of, is_long_type, is_message_type, is_misfit, is_of_proto2, is_packable_type, is_past_zero, is_scalar_default, is_unpackable, is_value_of, lacks_label, map_key_flaws, long_types, may_be_lazy, may_be_packed, may_default, may_have_js_type, no_map_keys, option_flaws, misfit_flaws, proto3_defaults, required_extensions, required_flaws, starts_wrong, type_flaws, type_token, wrong_default, other_js_types, lazy_options}
pub use Rattle.proto_desc_checks.specs.FileFlaws.{alias_flaws, allows_alias, bars_extend, block_flaws, enum_flaws, extend_flaws, extension_flaws, file_flaws, first_value_flaws, flaws_in_blocks, is_empty, is_of_options, json_clashes, message_flaws, name_flaws, reserved_again, value_number_flaws, value_option_flaws, with_reserved_name}
