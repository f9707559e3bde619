-- What proofs of this crate name of its own definitions, passed on from one place.
-- Declares nothing.
pub use Rattle.proto_edit_rules.specs.Rename.{StandsBefore, is_keyword_of, is_value_keyword, kind_not_allowed, same_name, too_large, unknown_target, change_by, changes_from, spliced_length, means_value, renamed_defaults, type_meaning, change_at, front_of, renamed_places, same_at, standing, stands, NewWords, words_of_file, HasEnum, IsNamed, Target, may_rename, name_map, renamed_words}
pub use Rattle.proto_edit_rename_laws.specs.ChangesEntry.{ChangesAreEntry, IsPutIn, OldTextsAreNames, TextsAfter}
pub use Rattle.proto_edit_rename_laws.specs.OneTarget.{TargetsAreOne, TargetsAreThere}
pub use Rattle.proto_edit_rename_laws.specs.Places.{Names, Uses}
pub use Rattle.proto_edit_rename_laws.specs.Rewording.{SuitFiles}
pub use Rattle.proto_edit_rename_laws.specs.Roles.{RolesAreApart, HasWants}
