-- What proofs of the crates above name of this crate, passed on from one place. Declares nothing.
pub use Rattle.proto_edit_statement_laws.proofs.Exchanged.{around, cut_around, statements_are_exchanged}
pub use Rattle.proto_edit_statement_laws.proofs.Found.{found}
pub use Rattle.proto_edit_statement_laws.proofs.ImportLists.{imports_come_in, none_inside}
pub use Rattle.proto_edit_statement_laws.proofs.Marks.{moved_moves_by, moves_in, numbered_among, numbered_first, numbered_last, some_marks}
pub use Rattle.proto_edit_statement_laws.proofs.NewStatements.{reservation_fits, word_is_string}
pub use Rattle.proto_edit_statement_laws.proofs.Seams.{fit_long}
pub use Rattle.proto_edit_statement_laws.proofs.StandsOnce.{name_mark}
pub use Rattle.proto_edit_statement_laws.proofs.TakenOut.{before_field, before_it, block_long, close_at, closed, leaf_long, through, through_message}
pub use Rattle.proto_edit_statement_laws.specs.Deletions.{IsDeleted, own, reservation_place, without}
pub use Rattle.proto_edit_rules.specs.Statements.{AfterBlock, AfterLeaf, First, StandsIn, begins, first_token, next_token, splice}
pub use Rattle.proto_edit_rules.specs.DeleteField.{Deeper, InMessage, InOneof, IsFieldOf, PastBlock, PastLeaf, StandsAt, deletion, reservation_text}
pub use Rattle.proto_edit_statement_laws.specs.Exchanges.{Behind, Here, Inside, IsExchanged, Later, LexemesAreMoved, MovesBy, before}
pub use Rattle.proto_edit_statement_laws.specs.Imports.{AdditionsAreRead, DropsAreRead, IsImportTakenOut}
pub use Rattle.proto_edit_rules.specs.AddImport.{added_text, addition, import_place}
pub use Rattle.proto_edit_rules.specs.DropImport.{drop_of}
pub use Rattle.proto_edit_statement_laws.specs.Insertions.{IsInsertion}
pub use Rattle.proto_edit_statement_laws.specs.Statements.{import_tree, import_tokens, reservation, reservation_tokens, semicolon_token, token_of_text}
