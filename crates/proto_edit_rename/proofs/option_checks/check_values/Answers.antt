use Rattle.std.proofs.Common.{subst}
use Rattle.proto_edit_rename.proofs.Refused.{IsAnswer, value_free, value_refused}
use Rattle.proto_edit_rename.proofs.option_checks.check_values.Goals as goal

pub returns-in-None-clause-free : goal.returns-in-None-clause-free
returns-in-None-clause-free c =
    let files = c.args.linked.now.files in
    let clean = c.files.ensures.clean.clean in
    value_free files clean c.args.target c.requires.target c.args.to.now (subst (IsAnswer files clean c.args.target c.requires.target c.args.to.now) c.in-None.is c.in_ok-value_refusal.ensures) c.requires.before

pub returns-in-Some-clause-err : goal.returns-in-Some-clause-err
returns-in-Some-clause-err c =
    let files = c.args.linked.now.files in
    let clean = c.files.ensures.clean.clean in
    value_refused files clean c.args.target c.requires.target c.args.to.now c.files.ensures.clean.reads c.files.ensures.clean.read c.in-Some.refusal (subst (IsAnswer files clean c.args.target c.requires.target c.args.to.now) c.in-Some.is c.in_ok-value_refusal.ensures) c.requires.before
