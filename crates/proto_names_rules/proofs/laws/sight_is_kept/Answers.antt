use Rattle.proto_names_rules.proofs.Sight.{sight_is_kept, sight_is_tested}
use Rattle.proto_names_rules.proofs.laws.sight_is_kept.Goals as goal

pub returns-clause-seen : goal.returns-clause-seen
returns-clause-seen c = sight_is_kept

pub returns-clause-tested : goal.returns-clause-tested
returns-clause-tested c = sight_is_tested
