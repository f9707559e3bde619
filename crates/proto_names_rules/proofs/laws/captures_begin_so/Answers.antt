use Rattle.proto_names_rules.proofs.Beginnings.{captures_begin_so}
use Rattle.proto_names_rules.proofs.laws.captures_begin_so.Goals as goal

pub returns : goal.returns
returns c = captures_begin_so
