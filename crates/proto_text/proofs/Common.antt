-- What proofs of the crates above name of this crate, passed on from one place. Declares nothing.
pub use Rattle.proto_text.proofs.CoreTokens.{core_tokens_have_no_colon, tokens_without_colon}
pub use Rattle.proto_text.proofs.EditLaws.{cut, inverse_leads_back}
pub use Rattle.proto_text.proofs.Once.{no_fault_with_tokens, no_fault_with_tokens_in, one_token_list, puts_length, puts_once, tokens_are_written, tokens_of_text}
pub use Rattle.proto_text.proofs.OneEdit.{length_map, other_words_stay, word_at_token, words_are_changed}
pub use Rattle.proto_text.proofs.Order.{text_token_is_string, token_is_lexeme, tokens_are_in_order, tokens_are_lexemes}
pub use Rattle.proto_text.proofs.Values.{meaning_again, meaning_sound, strings_have_values, value_again, value_is_value_of}
pub use Rattle.proto_text.proofs.WordChange.{not_empty}
pub use Rattle.proto_text.proofs.WordTest.{is_run_again, run_is}
pub use Rattle.proto_text.specs.Bytes.{EachByte}
pub use Rattle.proto_text.specs.Classes.{extends_word, is_digit, is_identifier, is_letter, is_mark, is_space}
unfoldable pub use Rattle.proto_text.specs.Classes.{class_of}
pub use Rattle.proto_text.specs.Edits.{AreShort, Edit, Puts, inverse_from, new_len, old_len}
pub use Rattle.proto_text.specs.Pieces.{ArePieces, IsFault, IsLexeme, IsRun, Piece, pieces_text}
pub use Rattle.proto_text.specs.Segments.{EndsByItself, IsPlace, IsReplaced, IsSeam, IsSegment, QuotedStandsForItself, RunsAreReplaced, bytes_between, end_before, is_plain, moved, quoted}
pub use Rattle.proto_text.specs.Profiles.{AreAllowed, IsPieces, IsPiecesIn, may_begin}
pub use Rattle.proto_text.specs.SourceFacts.{IsSpan, text_at}
pub use Rattle.proto_text.specs.Splicing.{edit_of, edits}
pub use Rattle.proto_text.specs.Strings.{IsAllowed, IsString, number_in}
pub use Rattle.proto_text.specs.Texts.{AreWords, IsReworded, changed, edit_if, offset_at, or_word, token_edits, word_at, words}
pub use Rattle.proto_text.specs.Tokens.{AreTokens, AreTokensIn, IsFaultAt, IsFaultIn, IsLexError, IsLexErrorIn, Lexeme, colon_lexeme, lexeme_at, token_at, tokens_from}
pub use Rattle.proto_text.specs.Values.{StandsFor, is_value, meaning_behind, says}
unfoldable pub use Rattle.proto_text.specs.Values.{value_of}
pub use Rattle.proto_text.specs.Words.{is_run}
