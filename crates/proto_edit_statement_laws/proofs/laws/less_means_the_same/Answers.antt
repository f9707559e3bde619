use Rattle.proto_edit_statement_laws.proofs.Less.{less_is_linked, less_means}
use Rattle.proto_edit_statement_laws.proofs.laws.less_means_the_same.Goals as goal

pub returns : goal.returns
returns c = record { means = less_means; linked = less_is_linked }
