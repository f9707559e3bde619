use Rattle.proto_text.proofs.Sequence.{is_only, is_only_fault, ok_of_text}
use Rattle.proto_text.proofs.Spans.{result_spans}
use Rattle.proto_text.proofs.lexer.lex_as.Goals as goal

pub returns-clause-tokens : goal.returns-clause-tokens
returns-clause-tokens c = ok_of_text c.args.profile c.args.source.now c.tokens_of.result c.tokens_of.ensures

pub returns-clause-only : goal.returns-clause-only
returns-clause-only c = λ ps is. is_only c.args.profile c.args.source.now c.tokens_of.result ps c.tokens_of.ensures is

pub returns-clause-only_fault : goal.returns-clause-only_fault
returns-clause-only_fault c = λ offset fault at. is_only_fault c.args.profile c.args.source.now c.tokens_of.result offset fault c.tokens_of.ensures at

pub returns-clause-spans : goal.returns-clause-spans
returns-clause-spans c = result_spans c.args.profile c.args.source.now c.tokens_of.result c.tokens_of.ensures
