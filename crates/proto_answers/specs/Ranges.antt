-- Where tokens stand, as editors count.
use Rattle.std.specs.Prelude.{ℕ, List, slice_index_or}
use Rattle.proto_base.specs.Texts.{Text}
use Rattle.proto_files.specs.FilesRead.{ReadOf, read_at}
use Rattle.proto_files.specs.GivenFiles.{FileOf, file_at}
use Rattle.proto_names_rules.specs.Grown.{At}
use Rattle.proto_positions.specs.Positions.{position_of}
use Rattle.proto_positions.specs.declared.encoding.Encoding.{Encoding}
use Rattle.proto_text.specs.declared.kind.TokenKind.TheVariants.{Word}
use Rattle.proto_text.specs.declared.lexer.Token.{Token}
use Rattle.proto_text.specs.declared.source.Span.{Span}
use Rattle.proto_answers.specs.declared.ranges.Location.{Location}
use Rattle.proto_answers.specs.declared.ranges.Range.{Range}

-- the range of a span of a text
abbrev pub range_of : Encoding → Text → Span → Range
range_of e text span = record {
  start = position_of e text span.start;
  end = position_of e text span.end;
}

-- a token of no bytes at 0
abbrev pub no_token : Token
no_token = record { kind = Word; span = record { start = 0; end = 0 } }

-- the span of the token with this index; of no bytes at 0, where there is none
abbrev pub span_of : List Token → ℕ → Span
span_of tokens token = (slice_index_or tokens token no_token).span

-- where a token of the files stands
abbrev pub location_of : Encoding → List FileOf → List ReadOf → At → Location
location_of e files reads a = record {
  file = a.file;
  range = range_of e (file_at files a.file).bytes (span_of (read_at reads a.file).tokens a.token);
}
