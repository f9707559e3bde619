use Rattle.std.proofs.Common.{◌≡◌, Some, None, rules}
use Rattle.std.proofs.lemmas.Result.{IfOk-weaker}
use Rattle.proto_messages.specs.Messages.{document_position_view}
use Rattle.proto_session_files.specs.Views.{view_at}
use Rattle.proto_session_replies.proofs.Brought.{brought_compiles, brought_not, brought_there}
use Rattle.proto_session_replies.proofs.NameReplies.{faulty_rename}
use Rattle.proto_session_replies.proofs.requesting.rename_reply.Goals as goal

pub fault_reply-requires : goal.fault_reply-requires
fault_reply-requires c = brought_not (view_at c.args.view.now).files c.bring.new.good c.in_ok-bring.field-0 c.in_ok-bring.ensures c.if-not-branch.true

pub returns-then-not-branch : goal.returns-then-not-branch
returns-then-not-branch c = IfOk-weaker c.fault_reply.result _ _ (faulty_rename (view_at c.args.view.now) (document_position_view c.args.at.now) c.args.to.now) c.fault_reply.ensures

pub rename_in-requires : goal.rename_in-requires
rename_in-requires c =
    let v = view_at c.args.view.now in
    let is : Some c.in-Some.workspace.now ≡ c.bring.new.good = search rules in
    brought_compiles v c.bring.new.good c.in_ok-bring.field-0 c.in-Some.workspace.now c.in_ok-bring.ensures c.if-not-branch.false is

pub unreachable-requires : goal.unreachable-requires
unreachable-requires c =
    let is : None ≡ c.bring.new.good = search rules in
    brought_there (view_at c.args.view.now).files c.bring.new.good c.in_ok-bring.field-0 c.in_ok-bring.ensures c.if-not-branch.false is
