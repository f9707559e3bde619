use Rattle.proto_edit_statement_described.proofs.Additions.{additions_are_made}
use Rattle.proto_edit_statement_described.proofs.laws.additions_are_made.Goals as goal

pub returns : goal.returns
returns c = additions_are_made (record {
  changes = c.additions_are_changes.ensures;
  quoted = c.segments_are_made.ensures.quoted;
  lexemes = c.statements_are_exchanged.ensures.tokens;
  means = c.additions_keep_links.ensures.means;
  links = c.additions_keep_links.ensures.links;
})
