use Rattle.std.proofs.Common.{arith}
use Rattle.proto_answers.proofs.EditsOfFiles.{edits_more, edits_of_all, unsuited_there}
use Rattle.proto_answers.proofs.entry_edits.edits_of_changes.Goals as goal

pub returns-in_default : goal.returns-in_default
returns-in_default c =
    unsuited_there c.args.files.now c.args.changes.now c.loop-change.change-index c.change-item.result c.loop-change-test.true c.change-item.is (rw c.in_default.is at c.in_ok-edits.ensures)

pub loop-change-preserved : goal.loop-change-preserved
loop-change-preserved c =
    edits_more c.args.files.now c.args.encoding c.args.changes.now c.loop-change.change-index c.change-item.result c.loop-change.all.items c.push.new.self.items c.in-Some.edits c.loop-change-test.true c.change-item.is c.loop-change.invariant
    (rw c.in-Some.is at c.in_ok-edits.ensures) c.in_ok-push.ensures.items

pub returns : goal.returns
returns c = edits_of_all c.args.files.now c.args.encoding c.args.changes.now c.loop-change.change-index c.loop-change.all.items (omega (arith, c.loop-change-test.false)) c.loop-change.invariant
