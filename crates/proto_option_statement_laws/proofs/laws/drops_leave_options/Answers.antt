use Rattle.proto_option_statement_laws.proofs.Made.{drops_leave_options}
use Rattle.proto_option_statement_laws.proofs.laws.drops_leave_options.Goals as goal

pub returns : goal.returns
returns c = drops_leave_options (record {
  changes = c.drops_are_changes.ensures;
  lexemes = c.statements_are_exchanged.ensures.tokens;
  means = c.drops_keep_links.ensures.means;
  links = c.drops_keep_links.ensures.links;
})
