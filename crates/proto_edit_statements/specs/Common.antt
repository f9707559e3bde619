-- What proofs of this crate name of its own definitions, passed on from one place.
-- Declares nothing.
pub use Rattle.proto_edit_statements.specs.Edits.{IsDeletionCase, IsDeletionRefusal}
pub use Rattle.proto_edit_rules.specs.DeleteField.{IsFieldNamed, RefusesDeletion, by_name, too_large}
pub use Rattle.proto_edit_statements.specs.FieldPlaces.{FieldStatement, alone_in, field_among, field_if, field_in, statement_end, number_token, or_else, place_of_statement}
pub use Rattle.proto_edit_statements.specs.Fields.{IsFieldToken, StandsInOrder, is_field, is_field_kind, last_by, last_replaced, text_by, text_if}
pub use Rattle.proto_edit_statements.specs.ImportPlaces.{behind_all, ends_in, ends_of, place_behind, with_statement}
pub use Rattle.proto_edit_statements.specs.Spliced.{IsChangeOfAddition, IsChangeOfDeletion, IsSpliced}
pub use Rattle.proto_edit_statements.specs.declared.deleting.FieldName.{FieldName}
pub use Rattle.proto_edit_statements.specs.declared.fields.FieldPlace.{FieldPlace}
