use Rattle.proto_edit_statement_described.proofs.Kept.{deletions_keep_versions, imports_keep_versions, new_tokens_are_own, others_keep_apart}
use Rattle.proto_edit_statement_described.proofs.laws.tokens_and_versions_are_kept.Goals as goal

pub returns : goal.returns
returns c = record { apart = others_keep_apart; own = new_tokens_are_own; imports = imports_keep_versions; deletions = deletions_keep_versions }
