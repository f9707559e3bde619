use Rattle.proto_edit_statement_laws.proofs.DeletionChanges.{deletions_are_changes}
use Rattle.proto_edit_statement_laws.proofs.laws.deletions_are_changes.Goals as goal

pub returns : goal.returns
returns c = deletions_are_changes c.deletions_are_of_one_tree.ensures.read
