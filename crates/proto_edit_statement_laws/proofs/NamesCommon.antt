-- What proofs of the crates above name of this crate, passed on from one place. Declares nothing.
pub use Rattle.proto_edit_statement_laws.proofs.Fields.{fields_are_one, fields_are_there}
pub use Rattle.proto_edit_statement_laws.proofs.Lists.{more_back, more_front, more_has}
pub use Rattle.proto_edit_statement_laws.proofs.MovedNames.{both_moved, field_names_moved, fields_picked, flat_uses_moved, imports_move_names, inner_moved, inner_uses, item_uses_moved, items_moved, member_uses_moved, members_moved, moved_names, option_moved, path_more, path_of, prefixes_moved, statement_moved}
pub use Rattle.proto_edit_statement_laws.proofs.SameImports.{import_own, own_import, same_marks, set_imports}
pub use Rattle.proto_edit_statement_laws.proofs.Scenes.{find_there, index_map, index_past}
pub use Rattle.proto_edit_rules.specs.DeleteField.{DeletionCase, IsAlone, IsField, kind_not_allowed, last_of_oneof, unknown_target}
pub use Rattle.proto_edit_rules.specs.Statements.{IsPlaceOf}
pub use Rattle.proto_edit_rules.specs.AddImport.{asked_in, is_import_of, unknown_path, with_added}
pub use Rattle.proto_edit_rules.specs.DropImport.{with_dropped}
pub use Rattle.proto_edit_statement_laws.specs.Clean.{AreClean}
pub use Rattle.proto_edit_statement_laws.specs.Files.{IsFieldLess, IsImportMore, MayGoAt}
pub use Rattle.proto_edit_statement_laws.specs.Kept.{AdditionsKeepLinks, AdditionsKeepMeanings, DropsKeepLinks, DropsKeepMeanings, IsAdded, IsDropped, MeanTheSame}
pub use Rattle.proto_edit_statement_laws.specs.Lists.{HasMore, HasOneMore, IsAny}
pub use Rattle.proto_edit_statement_laws.specs.Trees.{MovesNames, move_placed, placed_in}
