-- What proofs of the crates above name of this crate, passed on from one place. Declares nothing.
pub use Rattle.proto_tree.proofs.CoreTrees.{core_trees_are_plain, core_trees_are_written, trees_have_tokens}
pub use Rattle.proto_tree.proofs.Exact.{Calm, Calm-append, Fit-join, Fit-split, no_text}
pub use Rattle.proto_tree.proofs.Faults.{one_tree, same_pieces, stuck_no_tree, stuck_place, tree_of_walk, walk_of}
pub use Rattle.proto_tree.proofs.MarkLaws.{marks_fit, marks_fit_in, numbered_append, numbered_at, one_mark, one_mark_in, statements_have_marks, trees_are_numbered, trees_are_numbered_in}
pub use Rattle.proto_tree.proofs.MoveLaws.{flat_moved, header_kind_moved, inside_moved, kind_moved, shift_append, well_formed_moved}
pub use Rattle.proto_tree.proofs.Nodes.{flat-joined, joined-fine, member_tree-Enum, member_tree-Oneof}
pub use Rattle.proto_tree.proofs.Places.{laws, nested_walk, walk_append}
pub use Rattle.proto_tree.proofs.ReplaceLaws.{behind_fine, classes-append, classes-append_in, classes-length, classes-length_in, fit_moved, fit_moved_in, fit_parts, regroup}
pub use Rattle.proto_tree.proofs.Roles.{roles_are_one, roles_are_one_in}
pub use Rattle.proto_tree.proofs.Walks.{after_inner, flats, flats-append, inside_inner, last_outer, pieces}
pub use Rattle.proto_tree.proofs.WordLaws.{edits_keep_trees, edits_keep_trees_in, place_of_word, word_is_word, words_come_for_words, words_come_for_words_in, words_only}
pub use Rattle.proto_tree.specs.Answer.{IsOuter}
pub use Rattle.proto_tree.specs.Classes.{fits, is_brace, is_text, is_word}
pub use Rattle.proto_tree.specs.File.{enum_item_tree, enum_tree, field_tree, item_tree, member_tree, message_tree, method_by, method_item_tree, oneof_item_tree, oneof_tree, service_item_tree, service_tree, tree_of_file, trees}
pub use Rattle.proto_tree.specs.Flat.{Fit, Mark, flat_all, flat_behind, flat_constant, flat_dotted, flat_field, flat_from, flat_header, flat_heading, flat_import, flat_map_field, flat_method_type, flat_number, flat_option, flat_package, flat_piece, flat_range, flat_range_end, flat_ranges, flat_reference, flat_reserved, flat_reserved_list, flat_separated, flat_setting, flat_settings, flat_signature, flat_signed, flat_statement, flat_type, flat_up_to, flat_value, flat_words, mark, name, one, only, text_mark, word, flat_modifier}
pub use Rattle.proto_tree.specs.Laws.{HasStatement, Numbered, PutsWords, Suits}
pub use Rattle.proto_tree.specs.Moved.{Move, move_behind, move_constant, move_header, move_heading, move_map_field, move_option, move_range, move_range_end, move_reference, move_reserved_list, move_separated, move_setting, move_settings, move_signature, move_signed, move_statement, move_tree, move_type, move_up_to, move_value, shift, move_modifier}
pub use Rattle.proto_tree.specs.Place.{IsShallow, IsTooDeep, open_after, open_from, open_in}
pub use Rattle.proto_tree.specs.Reads.{Reads, ReadsIn, classed, classed_in, place_at}
pub use Rattle.proto_tree.specs.References.{dotted, first_of, word_token}
pub use Rattle.proto_tree.specs.Roles.{HasRole, Role, is_number, is_other, is_scalar, is_value, labels, names, names_option, refers, role_of}
pub use Rattle.proto_tree.specs.Tree.{Block, End, IsWellFormed, Leaf, Spells, Tree, after, allows, field_kind, flat, header_kind, inside, joined_trees, kind_of, last_of, statement_kind}
pub use Rattle.proto_tree.specs.Words.{Listed, class_by, class_in, classes, classes_in, is_listed, marks}
