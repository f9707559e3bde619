-- What proofs of this crate name of its own definitions, passed on from one place.
-- Declares nothing.
pub use Rattle.proto_edit_rules.specs.Statements.{IsPlaceOf}
pub use Rattle.proto_edit_rules.specs.AddImport.{already_imported, asked_in, captured, cycle, is_import_of, unknown_path}
pub use Rattle.proto_edit_rules.specs.DropImport.{needed}
pub use Rattle.proto_edit_statement_laws.specs.Less.{HasLess, LessIsLinked, LessMeans, MayGo, goes_with_field}
pub use Rattle.proto_edit_statement_laws.specs.Lists.{HasMore, HasOneMore, IsAny}
