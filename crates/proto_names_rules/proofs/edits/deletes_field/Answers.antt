use Rattle.proto_names_rules.proofs.edits.deletes_field.Goals as goal
use Rattle.proto_names_rules.proofs.Deleted.{deleted_means, deleted_linked}

pub returns : goal.returns
returns c = record { means = deleted_means; linked = deleted_linked }
