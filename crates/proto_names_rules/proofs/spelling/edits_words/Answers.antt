use Rattle.proto_names_rules.proofs.spelling.edits_words.Goals as goal
use Rattle.proto_names_rules.proofs.Edited.{workspace_after, linked_after, means_same}

pub returns : goal.returns
returns g c = record { spelled = workspace_after; linked = linked_after; means = means_same }
