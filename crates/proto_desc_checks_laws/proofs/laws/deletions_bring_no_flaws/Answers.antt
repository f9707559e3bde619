use Rattle.proto_desc_checks_laws.proofs.laws.deletions_bring_no_flaws.Goals as goal
use Rattle.proto_desc_checks_laws.proofs.DeletedFlaws.{deletions_keep_json_names, deletions_keep_names, deletions_keep_numbers}

pub returns-clause-numbers : goal.returns-clause-numbers
returns-clause-numbers c = deletions_keep_numbers

pub returns-clause-names : goal.returns-clause-names
returns-clause-names c = deletions_keep_names

pub returns-clause-json_names : goal.returns-clause-json_names
returns-clause-json_names c = deletions_keep_json_names
