use Rattle.proto_edit_statement_described.proofs.Drops.{drops_are_made}
use Rattle.proto_edit_statement_described.proofs.laws.drops_are_made.Goals as goal

pub returns : goal.returns
returns c = drops_are_made (record {
  changes = c.drops_are_changes.ensures;
  lexemes = c.statements_are_exchanged.ensures.tokens;
  means = c.drops_keep_links.ensures.means;
  links = c.drops_keep_links.ensures.links;
})
