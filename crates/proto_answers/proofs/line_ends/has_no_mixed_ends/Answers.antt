use Rattle.proto_answers.proofs.SuitedEdits.{ends_tell, no_return_is}
use Rattle.proto_answers.proofs.line_ends.has_no_mixed_ends.Goals as goal

pub returns-then-has_no_return : goal.returns-then-has_no_return
returns-then-has_no_return c = no_return_is c.args.text.now c.args.splices.now c.has_no_return.result c.if-has_no_return.true c.has_no_return.ensures

pub returns : goal.returns
returns c =
    ends_tell c.args.text.now c.args.splices.now c.as_slice.result.now c.has_no_return.result c.have_no_line_end.result c.as_slice.ensures.items c.if-has_no_return.false c.has_no_return.ensures c.have_no_line_end.ensures
