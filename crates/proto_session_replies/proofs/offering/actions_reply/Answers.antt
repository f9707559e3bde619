use Rattle.std.proofs.Common.{◌≡◌, Some, None, inl, rules}
use Rattle.proto_session_files.specs.Views.{view_at}
use Rattle.proto_session_replies.proofs.Brought.{brought_compiles, brought_not, brought_there}
use Rattle.proto_session_replies.proofs.offering.actions_reply.Goals as goal

pub returns-then-not-branch : goal.returns-then-not-branch
returns-then-not-branch c = inl (brought_not (view_at c.args.view.now).files c.bring.new.good c.in_ok-bring.field-0 c.in_ok-bring.ensures c.if-not-branch.true, c.new.ensures.items)

pub actions_in-requires : goal.actions_in-requires
actions_in-requires c =
    let v = view_at c.args.view.now in
    let is : Some c.in-Some.workspace.now ≡ c.bring.new.good = search rules in
    brought_compiles v c.bring.new.good c.in_ok-bring.field-0 c.in-Some.workspace.now c.in_ok-bring.ensures c.if-not-branch.false is

pub unreachable-requires : goal.unreachable-requires
unreachable-requires c =
    let is : None ≡ c.bring.new.good = search rules in
    brought_there (view_at c.args.view.now).files c.bring.new.good c.in_ok-bring.field-0 c.in_ok-bring.ensures c.if-not-branch.false is
