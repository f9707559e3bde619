-- What proofs of the crates above name of this crate, passed on from one place. Declares nothing.
pub use Rattle.proto_edit_rename_laws.proofs.Declarations.{EndsAs, IsDeclaredBy, declared_by, declared_there, is_written, path_of_declared, placed_ends}
pub use Rattle.proto_edit_rename_laws.proofs.Inside.{name_of_file, plain_inside, tokens_are_inside, used_by_file, word_of_file}
pub use Rattle.proto_edit_rename_laws.proofs.NoLinkFault.{files_are_linked, files_are_woven, no_link_fault, read_files_are_clean}
pub use Rattle.proto_edit_rename_laws.proofs.OneTarget.{enum_name, one_declaration, one_enum, place_last, targets_are_one}
pub use Rattle.proto_edit_rename_laws.proofs.Places.{from_flat_map, listed_is_there, listed, places_respelled, stands_at, to_flat_map}
pub use Rattle.proto_edit_rename_laws.proofs.PlacesSuit.{meaning_parts, places_are_suited}
pub use Rattle.proto_edit_rename_laws.proofs.Rewording.{at_same, files_are_reworded, other_texts_stay, texts_are_changed}
pub use Rattle.proto_edit_rename_laws.proofs.Scenes.{declared_stays, find_agree, find_there, index_map, meaning_after, scenes_are_apart, trees_at, used_here, uses_stay, values_stay, version_stays}
pub use Rattle.proto_edit_rename_laws.proofs.TargetThere.{targets_are_there}
pub use Rattle.proto_edit_rename_laws.specs.Captures.{HasScope, IsNewWord}
pub use Rattle.proto_edit_rules.specs.Rename.{Captures, JsonNameClashes, IsFirstPlace, IsUnknown, RenameCase, ReservesWord, StandsBefore, captured, collision, has_json_names, is_keyword_of, is_value_keyword, json_clash, keyword_name, kind_not_allowed, name_reserved, not_an_identifier, same_name, too_large, unknown_target, IsRewordedTooLong, change_by, changes_from, changes_of_words, splices_in, default_words, defaults_from, fields_of_block, fields_of_file, meaning_from, means_value, renamed_default, renamed_defaults, type_meaning, front_of, renamed_places, same_at, standing, stands, NewWords, words_of_file, HasEnum, IsEnumOf, IsNamed, Target, may_rename, name_map, renamed_words}
pub use Rattle.proto_edit_rename_laws.specs.Inside.{IsInside}
pub use Rattle.proto_edit_rename_laws.specs.Places.{Names, Uses}
pub use Rattle.proto_edit_rename_laws.specs.Rewording.{AreReworded, SuitFiles}
pub use Rattle.proto_edit_rename_laws.specs.Roles.{RolesAreApart, HasDefaultRoles, HasDefaultWords, HasEnumRoles, HasRoles, HasWants, TokensHaveRenameRoles}
pub use Rattle.proto_edit_rename_laws.specs.SceneOf.{declared_as, enum_at, enum_named, enum_within, is_enum_at, is_proto3_file, lexemes_of, meaning_of, meant_as, scene_of}
pub use Rattle.proto_edit_rename_laws.specs.Scenes.{IsRename}
pub use Rattle.proto_edit_rename_laws.specs.Targets.{HasValue}
