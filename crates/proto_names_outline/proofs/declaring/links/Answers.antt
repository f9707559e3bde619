use Rattle.proto_names_outline.proofs.declaring.links.Goals as goal
use Rattle.proto_names_rules.proofs.Sound.{linked_from, names_sound, references_sound}

pub returns : goal.returns
returns c = record { sound = linked_from; names = names_sound; references = references_sound }
