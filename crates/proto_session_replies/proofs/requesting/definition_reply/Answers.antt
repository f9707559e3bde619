use Rattle.std.proofs.Common.{◌≡◌, Some, None, inl, rules}
use Rattle.proto_session_files.specs.Views.{view_at}
use Rattle.proto_session_replies.proofs.Brought.{brought_compiles, brought_none, brought_not}
use Rattle.proto_session_replies.proofs.requesting.definition_reply.Goals as goal

pub returns-in_default : goal.returns-in_default
returns-in_default c =
    let none : None ≡ c.bring.new.good = search rules in
    inl (brought_none (view_at c.args.view.now).files c.bring.new.good c.in_ok-compiles.compiles c.in_ok-compiles.ensures none)

pub definition_in-requires : goal.definition_in-requires
definition_in-requires c =
    let is : Some c.in-Some.workspace.now ≡ c.bring.new.good = search rules in
    brought_compiles (view_at c.args.view.now) c.bring.new.good c.in_ok-compiles.compiles c.in-Some.workspace.now c.in_ok-compiles.ensures c.if-compiles.true is

pub definition_before-requires : goal.definition_before-requires
definition_before-requires c = brought_not (view_at c.args.view.now).files c.bring.new.good c.in_ok-compiles.compiles c.in_ok-compiles.ensures c.if-compiles.false
