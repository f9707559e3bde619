use Rattle.std.proofs.Common.{◌∙◌, ap, refl, List}
use Rattle.proto_text.specs.declared.lexer.Token.{Token}
use Rattle.proto_text.proofs.Common.{offset_at, one_token_list}
use Rattle.proto_files.specs.GivenFiles.{file_at}
use Rattle.proto_files.proofs.tokens.fault_at_token.Goals as goal

pub returns-in-Ok : goal.returns-in-Ok
returns-in-Ok c = record {
  path = c.in-Ok.ensures.ok ∙ c.path.ensures;
  offset = λ tokens are. c.offset_of.ensures ∙ ap (λ (ts : List Token). offset_at ts c.args.token) (one_token_list (file_at c.args.files.now c.args.file).bytes c.tokens.result.now tokens c.tokens.ensures.tokens are);
  kind_is = refl;
}
