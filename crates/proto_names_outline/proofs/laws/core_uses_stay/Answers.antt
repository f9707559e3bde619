use Rattle.proto_names_outline.proofs.CoreUses as lemma
use Rattle.proto_names_outline.proofs.laws.core_uses_stay.Goals as goal

pub returns : goal.returns
returns c = lemma.core_uses_stay
