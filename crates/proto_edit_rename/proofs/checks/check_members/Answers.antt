use Rattle.proto_edit_rename.proofs.Refused.{clash_free, clash_refused, reserved_free, reserved_refused}
use Rattle.proto_edit_rename.proofs.checks.check_members.Goals as goal

pub returns-then-branch-clause-err : goal.returns-then-branch-clause-err
returns-then-branch-clause-err c =
    reserved_refused c.args.linked.now.files c.files.ensures.clean.clean c.args.target c.requires.target c.args.to.now c.files.ensures.clean.reads c.files.ensures.clean.read c.in_ok-is_reserved.field-0 c.if-branch.true c.in_ok-is_reserved.ensures c.requires.before

pub returns-then-branch-2-clause-err : goal.returns-then-branch-2-clause-err
returns-then-branch-2-clause-err c =
    let free = reserved_free c.args.linked.now.files c.files.ensures.clean.clean c.args.target c.requires.target c.args.to.now c.in_ok-is_reserved.field-0 c.if-branch.false c.in_ok-is_reserved.ensures c.requires.before in
    clash_refused c.args.linked.now.files c.files.ensures.clean.clean c.args.target c.requires.target c.args.to.now c.files.ensures.clean.reads c.files.ensures.clean.read c.in_ok-clashes.field-0 c.if-branch-2.true c.in_ok-clashes.ensures free

pub returns-clause-free : goal.returns-clause-free
returns-clause-free c =
    let free = reserved_free c.args.linked.now.files c.files.ensures.clean.clean c.args.target c.requires.target c.args.to.now c.in_ok-is_reserved.field-0 c.if-branch.false c.in_ok-is_reserved.ensures c.requires.before in
    clash_free c.args.linked.now.files c.files.ensures.clean.clean c.args.target c.requires.target c.args.to.now c.in_ok-clashes.field-0 c.if-branch-2.false c.in_ok-clashes.ensures free
