use Rattle.proto_option_statement_laws.proofs.Made.{additions_leave_options}
use Rattle.proto_option_statement_laws.proofs.laws.additions_leave_options.Goals as goal

pub returns : goal.returns
returns c = additions_leave_options (record {
  changes = c.additions_are_changes.ensures;
  quoted = c.segments_are_made.ensures.quoted;
  lexemes = c.statements_are_exchanged.ensures.tokens;
  means = c.additions_keep_links.ensures.means;
  links = c.additions_keep_links.ensures.links;
})
