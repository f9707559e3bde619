use Rattle.std.proofs.Common.{List, ap, ◌∙◌}
use Rattle.proto_text.specs.declared.lexer.Token.{Token}
use Rattle.proto_text.proofs.Common.{offset_at, one_token_list}
use Rattle.proto_files.specs.GivenFiles.{file_at}
use Rattle.proto_edit_captures.proofs.refusing.captured_refusal.Goals as goal

pub returns : goal.returns
returns c = (
  c.in_ok-to_string.ensures.ok ∙ c.path.ensures,
  λ tokens are.
      c.offset_of.ensures ∙ ap (λ (ts : List Token). offset_at ts c.args.token) (one_token_list (file_at c.args.files.now c.args.file).bytes c.tokens.result.now tokens c.tokens.ensures.tokens are),
)
