use Rattle.std.proofs.Common.{length, ap, arith, rules}
use Rattle.proto_text.proofs.Spans.{token_spans}
use Rattle.proto_tree.proofs.ClassLemmas.{few_tokens}
use Rattle.proto_tree.proofs.parsing.read.Goals as goal

pub lexemes-requires-clause-spans : goal.lexemes-requires-clause-spans
lexemes-requires-clause-spans c = token_spans c.args.source.now c.args.tokens.now c.requires

pub lexemes-requires-clause-few : goal.lexemes-requires-clause-few
lexemes-requires-clause-few c =
    omega (arith, few_tokens c.args.source.now c.args.tokens.now c.requires, ap length c.as_bytes-bytes.ensures.value, c.as_bytes-bytes.ensures.short)

pub returns-in-Err-TooDeep : goal.returns-in-Err-TooDeep
returns-in-Err-TooDeep c = search rules
