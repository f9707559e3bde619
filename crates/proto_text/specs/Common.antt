-- What proofs of this crate name of its own definitions, passed on from one place.
-- Declares nothing.
pub use Rattle.proto_base.specs.declared.profile.Profile.{Profile}
pub use Rattle.proto_text.specs.Bytes.{EachByte, Stops, is_backslash, is_hex, is_octal}
pub use Rattle.proto_text.specs.Classes.{extends_word, is_digit, is_identifier, is_letter, is_mark, is_space}
unfoldable pub use Rattle.proto_text.specs.Classes.{class_of}
pub use Rattle.proto_text.specs.Edits.{AreShort, Edit, InverseLeadsBack, IsCut, Puts, inverse_from, new_len, old_len}
pub use Rattle.proto_text.specs.First.{BeginsWith, IsFirstPiece}
pub use Rattle.proto_text.specs.Pieces.{ArePieces, EndsBefore, HasNoClose, IsFault, IsFront, IsLexeme, IsMadeOf, IsOne, IsRun, Piece, is_in_line, is_number, opens_comment, pieces_text}
pub use Rattle.proto_text.specs.Profiles.{AreAllowed, IsPieces, IsPiecesIn, may_begin}
pub use Rattle.proto_text.specs.Renames.{EditsChangePieces, IsWord, SameButWords, WordsMayChangeIn, piece_after, edits_from}
pub use Rattle.proto_text.specs.Scan.{PieceFound, block_found, piece_of, string_found}
unfoldable pub use Rattle.proto_text.specs.Scan.{close_len, comment_at, scanned_number, piece_at, scanned_string}
pub use Rattle.proto_text.specs.Segments.{BetweenPlaces, DecimalIsNumber, EndsByItself, IsPlace, IsSeam, QuotedStandsForItself, RunsAreReplaced, SegmentsJoin, SpaceIsSegment, TokenBeforeSegment, TokenIsSegment, TokensAreInOrder, TokensAreLexemes, TokensAreMoved, bytes_between, end_before, is_plain, moved}
pub use Rattle.proto_text.specs.SourceFacts.{IsSpan, text_at}
pub use Rattle.proto_text.specs.Splicing.{edit_of, edits}
pub use Rattle.proto_text.specs.Strings.{IsAllowed, IsDigits, IsPlainByte, IsQuoted, IsSingle, IsString, IsUnit, Means, body_after, end_after, escape_after, is_body, number_in, step_of}
unfoldable pub use Rattle.proto_text.specs.Strings.{end_len, escape_at, escape_of, hex_at, octal_at, unit_at}
pub use Rattle.proto_text.specs.Texts.{AreWords, CountStays, IsReworded, OneWordIsOneEdit, OtherWordsStay, WordsAreChanged, WordsArePut, WordsStandAtSpans, changed, edit_if, offset_at, or_word, token_edits, word_at}
pub use Rattle.proto_text.specs.Tokens.{AreTokens, AreTokensIn, TokensAreWritten, IsFaultAt, IsFaultIn, IsLexError, IsLexErrorIn, IsLexed, Lexeme, CoreTokensHaveNoColon, NoFaultWithTokens, NoFaultWithTokensIn, NothingBegins, OneTokenList, TokensOfText, TokensReadPieces, TokensWithoutColon, colon_lexeme, text_fault_of, lexeme_at, lexeme_if, lexemes, token_at, tokens_from}
pub use Rattle.proto_text.specs.declared.class.Class.{Class}
pub use Rattle.proto_text.specs.declared.class.Class.TheVariants.{Digit, Letter, Mark, Other, Quote, Slash, Space}
pub use Rattle.proto_text.specs.declared.ending.Step.{Step}
pub use Rattle.proto_text.specs.declared.ending.Step.TheVariants.{Breaks, Ends, GoesOn}
pub use Rattle.proto_text.specs.declared.fault.LexFault.{LexFault}
pub use Rattle.proto_text.specs.declared.fault.LexFault.TheVariants.{BadChar, BadEscape, BadNumber, OpenComment, OpenString}
pub use Rattle.proto_text.specs.declared.fault.TextFault.{TextFault}
pub use Rattle.proto_text.specs.declared.kind.PieceKind.{PieceKind}
pub use Rattle.proto_text.specs.declared.kind.PieceKind.TheVariants.{Blank, BlockComment, LineComment, Solid}
pub use Rattle.proto_text.specs.declared.kind.TokenKind.{TokenKind}
pub use Rattle.proto_text.specs.declared.kind.TokenKind.TheVariants.{Number, Punctuation, Text, Word}
pub use Rattle.proto_text.specs.declared.lexer.Token.{Token}
