-- What proofs of this crate name of its own definitions, passed on from one place.
-- Declares nothing.
pub use Rattle.proto_base.specs.declared.profile.Profile.{Profile}
pub use Rattle.proto_tree.specs.Answer.{FaultOf, IsBody, IsClose, IsItem, IsItemBefore, IsItemOf, IsMet, IsOuter, IsRead}
pub use Rattle.proto_tree.specs.Classes.{code, fits, is_atom, is_brace, is_element, is_word}
pub use Rattle.proto_tree.specs.File.{enum_tree, extend_tree, item_tree, member_layer, member_tree, message_tree, oneof_tree, service_item_tree, tree_of_file, trees}
pub use Rattle.proto_tree.specs.Flat.{Fit, Mark, flat_all, flat_behind, flat_aggregate, flat_constant, flat_custom, flat_dotted, fewer, flat_extension_name, flat_custom_value, flat_plain, flat_within, inner_expected, last_expected, other_expected, flat_extending, flat_extensions, flat_field, flat_from, flat_header, flat_heading, flat_import, flat_joined, flat_map_field, flat_method_type, flat_number, flat_option, flat_option_statement, flat_package, flat_piece, flat_range, flat_range_end, flat_ranges, flat_reference, flat_reserved, flat_reserved_list, flat_separated, flat_setting, flat_settings, flat_signature, flat_signed, flat_statement, flat_syntax, flat_type, flat_up_to, flat_value, flat_words, mark, name, one, only, text_mark, word, flat_modifier}
pub use Rattle.proto_tree.specs.Laws.{Change, CoreTreesArePlain, CoreTreesAreWritten, TreesHaveTokens, EachTokenIsMarked, EachTokenIsMarkedIn, EditsKeepTrees, EditsKeepTreesIn, HeadersHaveMarks, MarksFit, MarksFitIn, Numbered, OneMark, OneMarkIn, OneTree, OneTreeIn, PutsWords, StatementsHaveMarks, Suits, TreesAreNumbered, TreesAreNumberedIn, WordsComeForWords, WordsComeForWordsIn, WordsHaveWordClasses, WordsKeepTrees, WordsKeepTreesIn, WordsStandApart, any_for, is_for, CoreTreesHaveNoWeakImport}
pub use Rattle.proto_tree.specs.Moved.{Move, move_aggregate, move_atom, move_custom, move_custom_value, move_plain, move_behind, move_constant, move_extending, move_extensions, move_field, move_header, move_import, move_joined, move_map_field, move_method_type, move_option, move_option_statement, move_package, move_range, move_range_end, move_reference, move_reserved, move_reserved_list, move_separated, move_setting, move_settings, move_signature, move_signed, move_statement, move_syntax, move_tree, move_type, move_up_to, move_value, shift, move_modifier}
pub use Rattle.proto_tree.specs.Place.{IsGoodFront, IsLongestFront, IsShallow, IsTooDeep, closers, open_after, open_from, open_in}
pub use Rattle.proto_tree.specs.Reading.{Fails, Read, Reader, at_close, dotted_at, extension_name_at, put_atom, within_at, either, extend_at, heading_at, made, maybe, maybe_settings, maybe_token, method_piece, named_at, numbered_at, block_start, package_name_at, ranges_at, separated_at, starts, stated, up_to, ◌then◌}
unfoldable pub use Rattle.proto_tree.specs.Reading.{modifier_at, aggregate_at, behind_at, constant_at, custom_at, custom_value_at, plain_at, ending_at, enum_piece_at, extending_at, extensions_at, field_at, from_at, import_at, joined_at, many, map_field_at, method_at, method_type_at, option_at, package_at, inner_piece_at, range_at, range_end_at, reference_at, reserved_at, reserved_list_at, setting_at, settings_at, signature_at, signed_at, syntax_at, token, type_at, up_to_at, value_at}
pub use Rattle.proto_tree.specs.Reads.{IsParseFault, IsParseFaultIn, IsParsed, Reads, ReadsIn, classed, classed_in, is_fault_or_memory, is_fault_or_memory_in, place_at}
pub use Rattle.proto_tree.specs.Tree.{Block, End, IsWellFormed, Leaf, Spells, Tree, after, all_joined, allows, field_kind, flat, header_kind, inside, joined_trees, kind_of, last_of, option_kind, statement_kind}
pub use Rattle.proto_tree.specs.Walk.{IsStuck, Walk, any_piece_in, moved_contexts}
unfoldable pub use Rattle.proto_tree.specs.Walk.{piece_in}
pub use Rattle.proto_tree.specs.Words.{Listed, class_by, class_in, classes, classes_in, listed, marks, of_length, class_as}
pub use Rattle.proto_tree.specs.declared.class.Class.{Class}
pub use Rattle.proto_tree.specs.declared.class.Lexeme.{Lexeme}
pub use Rattle.proto_tree.specs.declared.class.Expected.{Expected}
pub use Rattle.proto_tree.specs.declared.context.Context.{Context}
pub use Rattle.proto_tree.specs.declared.context.Kind.{Kind}
pub use Rattle.proto_tree.specs.declared.piece.Extending.{Extending}
pub use Rattle.proto_tree.specs.declared.piece.Header.{Header}
pub use Rattle.proto_tree.specs.declared.piece.Heading.{Heading}
pub use Rattle.proto_tree.specs.declared.piece.Piece.{Piece}
pub use Rattle.proto_tree.specs.declared.piece.Statement.{Statement}
pub use Rattle.proto_tree.specs.declared.reading.Stop.{Stop}
pub use Rattle.proto_tree.specs.declared.tree.Aggregate.{Aggregate}
pub use Rattle.proto_tree.specs.declared.tree.Atom.{Atom}
pub use Rattle.proto_tree.specs.declared.tree.Constant.{Constant}
pub use Rattle.proto_tree.specs.declared.tree.Custom.{Custom}
pub use Rattle.proto_tree.specs.declared.tree.CustomValue.{CustomValue}
pub use Rattle.proto_tree.specs.declared.tree.Plain.{Plain}
pub use Rattle.proto_tree.specs.declared.tree.Setting.{Setting}
pub use Rattle.proto_tree.specs.declared.tree.Field.{Field}
pub use Rattle.proto_tree.specs.declared.tree.FieldType.{FieldType}
pub use Rattle.proto_tree.specs.declared.tree.RangeEnd.{RangeEnd}
pub use Rattle.proto_tree.specs.declared.tree.ReservedList.{ReservedList}
pub use Rattle.proto_tree.specs.declared.tree.Separated.{Separated}
pub use Rattle.proto_tree.specs.declared.tree.Settings.{Settings}
pub use Rattle.proto_tree.specs.declared.tree.Signature.{Signature}
pub use Rattle.proto_tree.specs.declared.tree.Signed.{Signed}
