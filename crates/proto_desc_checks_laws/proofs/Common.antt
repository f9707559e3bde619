-- What proofs of the crates above name of this crate, passed on from one place. Declares nothing.
pub use Rattle.proto_desc_checks_laws.proofs.Declarations.{blocks_are_declared, fields_are_declared, oneof_field, values_are_declared}
pub use Rattle.proto_desc_checks_laws.proofs.MovedFlaws.{Moves, block_moved, clashes_moved, each, enum_range_moved, field_moved, field_number_moved, field_numbers_moved, if_moved, imports_move_flaws, json_name_moved, label_moved, move_number_at, move_range_at, named_moved, names_moved, number_moved, option_flaws_moved, range_moved, signed_moved, text_moved, word_moved}
pub use Rattle.proto_desc_checks_laws.proofs.MovedParts.{any_kept, blocks_moved, empty_kept, enum_ranges_moved, extension_ranges_moved, fields_moved, file_options_moved, find_moved, flat_kept, flat_map_moved, given_moved, maps_kept, maps_moved, move_block_of, move_field_of, move_option_of, options_moved, reserved_names_moved, reserved_ranges_moved, settings_moved, some_kept, statement_names_moved, statement_options_moved, statement_ranges_moved, statement_words_moved, statements_moved, values_moved}
pub use Rattle.proto_desc_checks_laws.proofs.NamedFlaws.{flaws_of_names, no_flaw_comes_in}
pub use Rattle.proto_desc_checks_laws.proofs.OneField.{names_are_of_one_field, options_are_of_one_field}
pub use Rattle.proto_desc_checks_laws.specs.Declarations.{IsDeclared}
pub use Rattle.proto_desc_checks_laws.specs.Imports.{IsMoved, reindexed_flaw, without_imports}
pub use Rattle.proto_desc_checks_laws.specs.NamedFlaws.{flaws_of_block}
pub use Rattle.proto_desc_checks_laws.specs.Renamed.{DifferInNames, asked_tokens, block_tokens, field_tokens, header_tokens, is_of_names, option_tokens}
