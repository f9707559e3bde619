use Rattle.std.proofs.Common.{List, ap, ◌∙◌}
use Rattle.proto_files.proofs.Common.{tokens_at}
use Rattle.proto_text.specs.Texts.{offset_at}
use Rattle.proto_text.specs.declared.lexer.Token.{Token}
use Rattle.proto_option_values.proofs.first.option_refusal.Goals as goal

pub returns : goal.returns
returns c = λ reads are. (
  c.in_ok-to_string.ensures.ok ∙ c.path.ensures,
  c.offset_of.ensures ∙ ap (λ (ts : List Token). offset_at ts c.args.word.token) (tokens_at c.args.files.now reads are c.args.word.file c.tokens.result.now c.requires c.tokens.ensures.tokens),
)
