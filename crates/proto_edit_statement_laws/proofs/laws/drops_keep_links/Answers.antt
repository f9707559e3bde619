use Rattle.proto_edit_statement_laws.proofs.Kept.{drops_keep_links, drops_keep_meanings}
use Rattle.proto_edit_statement_laws.proofs.laws.drops_keep_links.Goals as goal

pub returns : goal.returns
returns c = record { means = drops_keep_meanings c.drops_import.ensures.means; links = drops_keep_links c.drops_import.ensures.linked }
