use Rattle.proto_edit_rename.proofs.Refused.{fixed_free, fixed_refused}
use Rattle.proto_edit_rename.proofs.option_checks.check_fixed.Goals as goal

pub returns-then-branch-clause-err : goal.returns-then-branch-clause-err
returns-then-branch-clause-err c =
    fixed_refused c.args.linked.now.files c.files.ensures.clean.clean c.args.target c.requires.target c.args.to.now c.in_ok-names_options.field-0 c.in_ok-names_options.ensures c.if-branch.true c.files.ensures.clean.reads c.files.ensures.clean.read c.requires.before

pub returns-clause-free : goal.returns-clause-free
returns-clause-free c =
    fixed_free c.args.linked.now.files c.files.ensures.clean.clean c.args.target c.requires.target c.args.to.now c.in_ok-names_options.field-0 c.in_ok-names_options.ensures c.if-branch.false c.requires.before
