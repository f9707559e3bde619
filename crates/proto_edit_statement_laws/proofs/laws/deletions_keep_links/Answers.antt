use Rattle.proto_edit_statement_laws.proofs.Kept.{deletions_keep_links, deletions_keep_meanings}
use Rattle.proto_edit_statement_laws.proofs.laws.deletions_keep_links.Goals as goal

pub returns : goal.returns
returns c = record { means = deletions_keep_meanings; links = deletions_keep_links }
