use Rattle.proto_desc_affected.proofs.Declared.{clean_edits_are_sound}
use Rattle.proto_desc_affected.proofs.laws.clean_edits_are_sound.Goals as goal

pub returns : goal.returns
returns c = clean_edits_are_sound
