use Rattle.std.proofs.Common.{◌∙◌}
use Rattle.proto_files.proofs.Common.{file_at}
use Rattle.proto_answers.proofs.TokenRanges.{range_stands, spans_within}
use Rattle.proto_answers.proofs.ranges.location_of.Goals as goal

pub range_from-requires-clause-cursor : goal.range_from-requires-clause-cursor
range_from-requires-clause-cursor c = c.new.ensures.there c.args.encoding c.as_bytes-text.result.now

pub range_from-requires-clause-start : goal.range_from-requires-clause-start
range_from-requires-clause-start c =
    (spans_within (file_at c.args.files.now c.args.file).bytes c.tokens.result.now c.tokens.ensures.tokens c.as_bytes-text.result.now (c.as_bytes-text.ensures.value ∙ c.source.ensures) c.args.token c.span_of-span.result c.span_of-span.ensures).0

pub range_from-requires-clause-end : goal.range_from-requires-clause-end
range_from-requires-clause-end c =
    (spans_within (file_at c.args.files.now c.args.file).bytes c.tokens.result.now c.tokens.ensures.tokens c.as_bytes-text.result.now (c.as_bytes-text.ensures.value ∙ c.source.ensures) c.args.token c.span_of-span.result c.span_of-span.ensures).1

pub returns : goal.returns
returns c = λ reads are.
    range_stands c.args.encoding c.args.files.now reads are c.args.file c.args.token c.requires c.as_bytes-text.result.now c.tokens.result.now c.span_of-span.result c.range_from.result.0 (c.as_bytes-text.ensures.value ∙ c.source.ensures) c.tokens.ensures.tokens c.span_of-span.ensures c.range_from.ensures.range
