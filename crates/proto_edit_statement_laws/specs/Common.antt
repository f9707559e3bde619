-- What proofs of this crate name of its own definitions, passed on from one place.
-- Declares nothing.
pub use Rattle.proto_edit_statement_laws.specs.Deletions.{DeletionsAreOfOneTree, own, reservation_place, without}
pub use Rattle.proto_edit_rules.specs.Statements.{AfterBlock, AfterLeaf, First, StandsIn, begins, ends, first_index, first_token, last_index, next_token, splice}
pub use Rattle.proto_edit_rules.specs.DeleteField.{Deeper, InMessage, InOneof, PastBlock, PastLeaf, StandsAt, reservation_text}
pub use Rattle.proto_edit_statement_laws.specs.Exchanges.{Behind, Here, Inside, IsExchanged, Later, MovesBy, before}
pub use Rattle.proto_edit_statement_laws.specs.Imports.{AdditionsAreRead, DropsAreRead, HasImportStatement, ImportsComeIn}
pub use Rattle.proto_edit_rules.specs.AddImport.{added_text, behind_import, behind_package, behind_syntax, import_place, import_text}
pub use Rattle.proto_edit_statement_laws.specs.Reading.{AreStatements, HaveNoBrace, LeaveDepth, PlacesAreSeams, StatementsAreRead}
pub use Rattle.proto_edit_statement_laws.specs.Statements.{import_tree, import_tokens, reservation, reservation_tokens}
