use Rattle.proto_names_rules.proofs.Unaffected.{inner_spare_others, keys_tell, leaves_spare_all, unaffected_are_kept}
use Rattle.proto_names_rules.proofs.laws.references_are_unaffected.Goals as goal

pub returns-clause-unaffected : goal.returns-clause-unaffected
returns-clause-unaffected c = unaffected_are_kept

pub returns-clause-keys : goal.returns-clause-keys
returns-clause-keys c = keys_tell

pub returns-clause-leaves : goal.returns-clause-leaves
returns-clause-leaves c = leaves_spare_all

pub returns-clause-inner : goal.returns-clause-inner
returns-clause-inner c = inner_spare_others
