use Rattle.std.proofs.Common.{arith}
use Rattle.proto_answers.proofs.LoneReturns.{none_at_all, none_more, some_is}
use Rattle.proto_answers.proofs.line_ends.has_lone_return.Goals as goal

pub loop-offset-init : goal.loop-offset-init
loop-offset-init c = λ o below r. absurd (omega (arith, below))

pub loop-offset-preserved : goal.loop-offset-preserved
loop-offset-preserved c = none_more c.args.text.now c.loop-offset.offset c.is_lone_return.result c.loop-offset.invariant c.if-is_lone_return.false c.is_lone_return.ensures

pub returns-then-is_lone_return : goal.returns-then-is_lone_return
returns-then-is_lone_return c = some_is (c.loop-offset.offset, c.is_lone_return.ensures.0 c.if-is_lone_return.true)

pub returns : goal.returns
returns c = none_at_all c.args.text.now c.loop-offset.offset (omega (arith, c.loop-offset-test.false)) c.loop-offset.invariant
