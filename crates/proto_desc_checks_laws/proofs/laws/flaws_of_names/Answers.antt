use Rattle.proto_desc_checks_laws.proofs.laws.flaws_of_names.Goals as goal
use Rattle.proto_desc_checks_laws.proofs.NamedFlaws.{flaws_of_names, no_flaw_comes_in}

pub returns-clause-all : goal.returns-clause-all
returns-clause-all c = flaws_of_names

pub returns-clause-none : goal.returns-clause-none
returns-clause-none c = no_flaw_comes_in
