use Rattle.proto_names.proofs.LinkLaws.{visible_is_seen, visible_is_shown}
use Rattle.proto_names.proofs.laws.visible_is_seen.Goals as goal

pub returns-clause-seen : goal.returns-clause-seen
returns-clause-seen c = visible_is_seen

pub returns-clause-shown : goal.returns-clause-shown
returns-clause-shown c = visible_is_shown
