use Rattle.std.proofs.Common.{subst, sym}
use Rattle.proto_answers.specs.Common.{HasNoEdits}
use Rattle.proto_answers.specs.declared.answers.Answer.TheVariants as answer
use Rattle.proto_answers.proofs.actions.offered.Goals as goal

pub returns-in-LineEnds : goal.returns-in-LineEnds
returns-in-LineEnds c = (answer.LineEnds, rw c.in-LineEnds.is at c.in_ok-edits.ensures, tt)

pub returns : goal.returns
returns c = (c.in_ok-edits.field-0, c.in_ok-edits.ensures, subst HasNoEdits (sym c.in-Refused.is) tt)
