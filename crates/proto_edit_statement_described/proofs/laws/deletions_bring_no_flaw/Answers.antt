use Rattle.proto_edit_statement_described.proofs.DeletedFlaws.{deletions_bring_no_flaw}
use Rattle.proto_edit_statement_described.proofs.laws.deletions_bring_no_flaw.Goals as goal

pub returns : goal.returns
returns c = deletions_bring_no_flaw
