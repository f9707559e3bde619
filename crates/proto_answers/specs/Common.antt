-- What proofs of this crate name of its own definitions, passed on from one place.
-- Declares nothing.
pub use Rattle.proto_answers.specs.Actions.{AreOffered, HasNoEdits, IsDeclaredAt, IsDeclaredNameAt, IsDeletionAt}
pub use Rattle.proto_answers.specs.Answers.{IsDefinitionAt, IsPreparedAt, IsRenamingAt}
pub use Rattle.proto_answers.specs.Declaring.{IsDeclaring, MayBeRenamed, at_token}
pub use Rattle.proto_answers.specs.EditAnswers.{AreAllEdits, AreAllEditsIfAny, AreEditsIfAny, AreEditsOf, HasUnsuited, IsAnswerTo, SuitsNoFile}
pub use Rattle.proto_answers.specs.Laws.{RenameLineEndsAreLone, StepsHavePositions}
pub use Rattle.proto_answers.specs.LineEnds.{HasLoneReturn, HasNoLineEnd, HasNoMixedEnds, HasNoReturn, IsLoneReturn, SuitEditors}
pub use Rattle.proto_answers.specs.LspFiles.{AreTextEdits, EditsPutFiles, edits_at, lsp_all, lsp_files}
pub use Rattle.proto_answers.specs.Ranges.{location_of, no_token, range_of, span_of}
pub use Rattle.proto_answers.specs.References.{AreReferences, AreReferencesAt, IsLeftOut, IsReference, all_tokens, is_listed, listed_tokens}
pub use Rattle.proto_answers.specs.Standing.{IsNamedTokenAt, NothingStandsAt, OnlyStandsAt, StandsAt}
pub use Rattle.proto_answers.specs.Symbols.{container_token, if_written, is_written, no_entry, symbol_at, symbol_if_written, symbols_of, written_token}
