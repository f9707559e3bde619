-- What proofs of this crate name of its own definitions, passed on from one place.
-- Declares nothing.
pub use Rattle.proto_edit_statement_described.specs.Deletions.{AtField, AtOneof, BehindBlock, BehindLeaf, Deeper, Found, FurtherOn, InMessage, IsAmong, IsDeletedIn, IsDeletedRight, OfMap, PastBlock, PastLeaf, Plain, Reservation, Reserves, WrittenField, written_field, written_name, reserved, statement_of}
pub use Rattle.proto_edit_statement_described.specs.Imports.{AdditionsAreMapped, DropsAreMapped, HasImport}
pub use Rattle.proto_edit_rules.specs.DropImport.{lowered, without_dependency}
pub use Rattle.proto_edit_rules.specs.AddImport.{with_dependency, with_dependencies}
pub use Rattle.proto_edit_rules.specs.Statements.{at_place, changed_at, places_before, with_more, without_place}
pub use Rattle.proto_edit_statement_described.specs.Mapped.{DeletionsMapTheDescriptor}
pub use Rattle.proto_edit_rules.specs.DeleteField.{declare, field_place, is_its, is_named_at, mapped_deletion, messages_with_deletion, range_of_field, statements_before, without_entry, without_field}
pub use Rattle.proto_edit_statement_described.specs.Scenes.{IsMovedScene}
