use Rattle.proto_answers.proofs.LoneReturns.{no_return_there}
use Rattle.proto_answers.proofs.line_ends.is_lone_return.Goals as goal

pub returns-then-text-offset-ne13 : goal.returns-then-text-offset-ne13
returns-then-text-offset-ne13 c = no_return_there c.args.text.now c.args.offset c.requires c.if-text-offset-ne13.true
