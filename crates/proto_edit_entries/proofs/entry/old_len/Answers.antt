use Rattle.std.proofs.Common.{arith, ◌∙◌, ap, take_all, sum_by}
use Rattle.proto_edit_entries.proofs.EntrySums.{old_of, old_sum_fits, sum_more, sum_below}
use Rattle.proto_edit_entries.proofs.entry.old_len.Goals as goal

pub overflow_add-total : goal.overflow_add-total
overflow_add-total c = omega (arith, c.loop-splice.invariant, c.len-total.ensures, old_sum_fits c.args.splices.now c.requires, sum_below old_of c.args.splices.now c.loop-splice.splice-index c.splice-item.result c.loop-splice-test.true c.splice-item.is)

pub loop-splice-preserved : goal.loop-splice-preserved
loop-splice-preserved c = let more = sum_more old_of c.args.splices.now c.loop-splice.splice-index c.splice-item.result c.loop-splice-test.true c.splice-item.is in omega (arith, more, c.loop-splice.invariant, c.len-total.ensures)

pub returns-clause-bound : goal.returns-clause-bound
returns-clause-bound c =
    let all = take_all c.loop-splice.splice-index c.args.splices.now (omega arith) in
    let value = c.loop-splice.invariant ∙ ap (sum_by old_of) all in
    omega (arith, value, old_sum_fits c.args.splices.now c.requires)
