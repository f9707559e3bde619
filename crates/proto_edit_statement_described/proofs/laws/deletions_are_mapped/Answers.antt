use Rattle.proto_edit_statement_described.proofs.DeletedDescriptors.{deletions_are_mapped}
use Rattle.proto_edit_statement_described.proofs.laws.deletions_are_mapped.Goals as goal

pub returns : goal.returns
returns c = deletions_are_mapped
