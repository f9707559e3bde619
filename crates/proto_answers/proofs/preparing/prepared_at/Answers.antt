use Rattle.std.proofs.Common.{List, ap, ◌∙◌}
use Rattle.proto_files.proofs.Common.{read_at}
use Rattle.proto_text.proofs.Common.{Lexeme, word_at}
use Rattle.proto_answers.proofs.preparing.prepared_at.Goals as goal

pub returns : goal.returns
returns c = λ reads are. (
  c.location_of-location.ensures reads are,
  c.in_ok-word.ensures.ok ∙ c.get.ensures ∙ ap (λ (ls : List Lexeme). word_at ls c.args.token) (c.new.ensures.words (read_at reads c.args.file).tokens (are.tokens c.args.file c.requires)),
)
