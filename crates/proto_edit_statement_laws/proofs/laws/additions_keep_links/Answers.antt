use Rattle.proto_edit_statement_laws.proofs.Kept.{additions_keep_links, additions_keep_meanings}
use Rattle.proto_edit_statement_laws.proofs.laws.additions_keep_links.Goals as goal

pub returns : goal.returns
returns c = record { means = additions_keep_meanings c.adds_import.ensures.means; links = additions_keep_links c.adds_import.ensures.linked c.adds_no_cycle.ensures }
