use Rattle.std.proofs.Common.{refl}
use Rattle.proto_answers.proofs.entry_edits.refused.Goals as goal

pub returns-in_default : goal.returns-in_default
returns-in_default c = (refl, c.in_default.not-NoMemory)
