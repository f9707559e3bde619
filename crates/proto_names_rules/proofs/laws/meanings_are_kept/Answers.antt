use Rattle.proto_names_rules.proofs.Kept.{flawless_stay, meanings_are_kept}
use Rattle.proto_names_rules.proofs.laws.meanings_are_kept.Goals as goal

pub returns-clause-means : goal.returns-clause-means
returns-clause-means c = meanings_are_kept

pub returns-clause-flawless : goal.returns-clause-flawless
returns-clause-flawless c = flawless_stay
