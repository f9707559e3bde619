-- What proofs of the crates above name of this crate, passed on from one place. Declares nothing.
pub use Rattle.proto_ast.proofs.ItemBlocks.{no_block_in_enum, no_block_in_method, no_blocks, no_method_within, none_within, wanted_turn, wanted_within, no_block_in_oneof}
pub use Rattle.proto_ast.proofs.JoinedTrees.{blocks_joined, statements_joined}
pub use Rattle.proto_ast.specs.JsonNames.{json_name_of, name_digest}
pub use Rattle.proto_case.specs.Camel.{json_word, written_or}
pub use Rattle.proto_ast.specs.Labels.{has_label, is_label_word}
pub use Rattle.proto_ast.specs.Numbers.{number_value, past}
pub use Rattle.proto_ast.specs.Options.{c_types, fits_kind, idempotency_levels, is_allowed, is_named, is_one_of, is_text_value, is_true, is_word_of, js_types, optimize_modes, text_of_constant, text_option, truth_named, truth_of, truth_option, value_kind_as, value_named, word_of, word_option}
pub use Rattle.proto_ast.specs.Parts.{BlockOf, FieldOf, OptionOf, blocks_in, closed_ranges, enum_ranges, extension_ranges, extension_words, fields_from, fields_in, map_field, reserved_names_of, setting_options, options_in, plain_field, ranges_of, reserved_names, reserved_names_in, reserved_ranges, separated, settings_of, statement_fields, statement_options, statement_values, statements, values_in}
pub use Rattle.proto_ast.specs.Scenes.{EnumOf, MeantOf, Scene, enum_meant, is_proto3, is_proto3_statement, meant_by, number_at, signed_value, string_of, text, uncapped, up_to_cap, value, value_in, value_or_none}
pub use Rattle.proto_ast.specs.Views.{field_of, option_of}
