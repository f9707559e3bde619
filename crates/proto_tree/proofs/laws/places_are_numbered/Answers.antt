use Rattle.proto_tree.proofs.MarkLaws.{trees_are_numbered, trees_are_numbered_in, one_mark, one_mark_in, marks_fit, marks_fit_in, each_token_is_marked, each_token_is_marked_in}
use Rattle.proto_tree.proofs.laws.places_are_numbered.Goals as goal

pub returns-clause-numbered : goal.returns-clause-numbered
returns-clause-numbered c = trees_are_numbered

pub returns-clause-numbered_in : goal.returns-clause-numbered_in
returns-clause-numbered_in c = trees_are_numbered_in

pub returns-clause-one : goal.returns-clause-one
returns-clause-one c = one_mark

pub returns-clause-one_in : goal.returns-clause-one_in
returns-clause-one_in c = one_mark_in

pub returns-clause-fit : goal.returns-clause-fit
returns-clause-fit c = marks_fit

pub returns-clause-fit_in : goal.returns-clause-fit_in
returns-clause-fit_in c = marks_fit_in

pub returns-clause-each : goal.returns-clause-each
returns-clause-each c = each_token_is_marked

pub returns-clause-each_in : goal.returns-clause-each_in
returns-clause-each_in c = each_token_is_marked_in
