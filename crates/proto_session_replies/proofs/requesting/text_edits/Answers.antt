use Rattle.std.proofs.Common.{arith}
use Rattle.proto_session_replies.proofs.RepliedLists.{zipped_all, zipped_more}
use Rattle.proto_session_replies.specs.Replies.{IsTextEdit}
use Rattle.proto_session_replies.proofs.requesting.text_edits.Goals as goal

pub loop-edit-preserved : goal.loop-edit-preserved
loop-edit-preserved c = zipped_more IsTextEdit c.args.edits.now c.loop-edit.all.items c.push.new.self.items c.loop-edit.edit-index c.edit-item.result c.in_ok-text_edit.field-0 c.loop-edit-test.true c.edit-item.is c.loop-edit.invariant c.in_ok-text_edit.ensures c.in_ok-push.ensures.items

pub returns : goal.returns
returns c = zipped_all IsTextEdit c.args.edits.now c.loop-edit.all.items c.loop-edit.edit-index (omega (arith, c.loop-edit-test.false)) c.loop-edit.invariant
