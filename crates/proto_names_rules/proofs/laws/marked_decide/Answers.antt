use Rattle.proto_names_rules.proofs.Marked.{unmarked_mean_the_same, marked_decide}
use Rattle.proto_names_rules.proofs.laws.marked_decide.Goals as goal

pub returns-clause-unmarked : goal.returns-clause-unmarked
returns-clause-unmarked c = unmarked_mean_the_same

pub returns-clause-linked : goal.returns-clause-linked
returns-clause-linked c = marked_decide
