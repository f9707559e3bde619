-- What proofs of this crate name of its own definitions, passed on from one place.
-- Declares nothing.
pub use Rattle.proto_edit_rename_described.specs.Allowed.{IsAllowedRename, RenamesLeaveNoFault}
pub use Rattle.proto_edit_rename_described.specs.DefaultsFit.{AllDefaultsFit, FieldsHaveRoles}
pub use Rattle.proto_edit_rules.specs.Rename.{Taken, behind_first, dotted_text, is_name_of, mapped, mapped_default, mapped_enum, mapped_field, mapped_file, mapped_json, mapped_message, mapped_messages, mapped_method, mapped_name, mapped_service, mapped_value, parts, put_first, word_under, words_of, WritesJson, of_another, of_field}
pub use Rattle.proto_edit_rename_described.specs.Turns.{DescriptorsAreMapped, EntryTurns, EnumTurns, ExtensionTurns, FieldStays, FieldTurns, FileTurns, IsUnder, MessageTurns, MethodTurns, MethodsTurn, Turned, Turns, ValueTurns, full, is_target, service_options, written_json}
