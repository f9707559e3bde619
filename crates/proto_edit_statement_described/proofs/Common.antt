-- What proofs of the crates above name of this crate, passed on from one place. Declares nothing.
pub use Rattle.proto_desc_extensions.specs.Extensions.{ExtensionOf, custom_flaws, extended_at, extended_by, extendee_in, extensions_in, is_extendable, is_message_at, name_meant, option_extends}
pub use Rattle.proto_edit_statement_described.proofs.ExtensionLists.{block_says, deep_leave, extendable_same, extended_left, extendee_is_used, extensions_left, extensions_said, found_same, leaves, left_at, left_named, left_there, message_moved, moved_leaves, name_is_used, name_left, right_leave, says_moved}
pub use Rattle.proto_edit_statement_described.proofs.Kept.{deletions_keep_versions, imports_keep_versions, new_tokens_are_own, others_keep_apart}
pub use Rattle.proto_edit_statement_described.proofs.MovedScenes.{first_moved, scenes_are_moved}
pub use Rattle.proto_edit_statement_described.proofs.OneFile.{additions_leave_no_fault, additions_map_descriptors, deletions_leave_no_fault, deletions_map_descriptors, drops_leave_no_fault, drops_map_descriptors}
pub use Rattle.proto_edit_statement_described.specs.Checked.{AreDescribed, fault_of_flaw, flaws_of, of_flaw}
pub use Rattle.proto_edit_statement_described.specs.Deletions.{AtField, AtOneof, BehindBlock, BehindLeaf, Deeper, Found, FurtherOn, InMessage, IsAmong, IsDeletedIn, IsDeletedRight, OfMap, PastBlock, PastLeaf, Plain, Reservation, Reserves, WrittenField, written_field, written_name, written_number, statement_of}
pub use Rattle.proto_edit_statement_described.specs.Extensions.{ExtensionsStay, Saying, saying_of}
pub use Rattle.proto_edit_statement_described.specs.Files.{IsFileAddition, IsFileDeletion, IsDrop, scene_at}
pub use Rattle.proto_edit_rules.specs.Statements.{tree_at, changed_at}
pub use Rattle.proto_edit_statement_described.specs.Imports.{HasImport}
pub use Rattle.proto_edit_rules.specs.AddImport.{with_dependency}
pub use Rattle.proto_edit_rules.specs.DropImport.{without_dependency}
pub use Rattle.proto_edit_statement_described.specs.SceneOf.{declared_as, enum_at, enum_named, enum_within, is_enum_at, is_proto3_file, lexemes_of, meaning_of, means_of, meant_as, starts_past_zero}
pub use Rattle.proto_edit_statement_described.specs.Scenes.{HasTokens, IsMovedScene, move_meant}
