use Rattle.std.proofs.Common.{arith}
use Rattle.proto_session_files.specs.Views.{view_at}
use Rattle.proto_session_replies.proofs.RepliedLists.{zipped_all, zipped_more}
use Rattle.proto_session_replies.specs.Replies.{IsDocumentEdit}
use Rattle.proto_session_replies.proofs.requesting.document_edits.Goals as goal

pub loop-of_file-preserved : goal.loop-of_file-preserved
loop-of_file-preserved c = zipped_more (IsDocumentEdit (view_at c.args.view.now)) c.args.edits.now c.loop-of_file.all.items c.push.new.self.items c.loop-of_file.of_file-index c.of_file-item.result c.in_ok-document_edit.field-0 c.loop-of_file-test.true c.of_file-item.is c.loop-of_file.invariant c.in_ok-document_edit.ensures c.in_ok-push.ensures.items

pub returns : goal.returns
returns c = zipped_all (IsDocumentEdit (view_at c.args.view.now)) c.args.edits.now c.loop-of_file.all.items c.loop-of_file.of_file-index (omega (arith, c.loop-of_file-test.false)) c.loop-of_file.invariant
