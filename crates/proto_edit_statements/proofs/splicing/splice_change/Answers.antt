use Rattle.std.proofs.Common.{arith}
use Rattle.std.proofs.lemmas.Grind.{common_steps}
use Rattle.proto_edit_statements.proofs.splicing.splice_change.Goals as goal

pub one_splice-requires-clause-new_fits : goal.one_splice-requires-clause-new_fits
one_splice-requires-clause-new_fits c = grind (arith, common_steps)

pub returns : goal.returns
returns c = grind (arith, common_steps)
