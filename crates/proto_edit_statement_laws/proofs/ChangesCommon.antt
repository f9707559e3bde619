-- What proofs of the crates above name of this crate, passed on from one place. Declares nothing.
pub use Rattle.proto_edit_statement_laws.specs.DeletionChanges.{DeletionsAreChanges, FieldsAreOne, IsFieldDeleted}
pub use Rattle.proto_edit_rules.specs.DeleteField.{FieldAt, changes_of_deletion, name_of_field, field_number_value, splice_of_deletion}
pub use Rattle.proto_edit_statement_laws.specs.ImportChanges.{AdditionsAreChanges, DropsAreChanges}
pub use Rattle.proto_edit_rules.specs.DropImport.{IsImportOf, changes_of_drop}
pub use Rattle.proto_edit_rules.specs.AddImport.{changes_of_addition, splice_of_addition}
pub use Rattle.proto_edit_statement_laws.specs.OneFile.{AreFiles, with_read, with_text}
pub use Rattle.proto_edit_rules.specs.Statements.{IsTooLong, word_of_token}
