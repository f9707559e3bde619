use Rattle.std.proofs.Common.{subst}
use Rattle.proto_edit_rename.proofs.Refused.{IsFirst, capture_free, capture_refused, captured_inside, collision_free, collision_refused}
use Rattle.proto_edit_rename.proofs.checks.check_names.Goals as goal

pub returns-then-branch-clause-err : goal.returns-then-branch-clause-err
returns-then-branch-clause-err c =
    collision_refused c.args.linked.now.files c.files-files.ensures.clean.clean c.args.target c.requires.target c.args.to.now c.files-files.ensures.clean.reads c.files-files.ensures.clean.read c.in_ok-collides.field-0 c.if-branch.true c.in_ok-collides.ensures c.requires.before

pub captured_refusal-requires : goal.captured_refusal-requires
captured_refusal-requires c =
    let files = c.args.linked.now.files in
    let reads = c.files-files.ensures.clean.reads in
    let r = c.files-files.ensures.clean.read in
    let t = c.requires.target reads r in
    let first = subst (IsFirst files c.files-files.ensures.clean.clean c.args.target c.requires.target c.args.to.now) c.in-Some.is c.in_ok-first_captured.ensures in
    rw c.files-files.ensures.files (captured_inside files reads r t.0 c.args.to.now c.in-Some.reference (first reads r t.0 t.1))

pub returns-in-None-clause-free : goal.returns-in-None-clause-free
returns-in-None-clause-free c =
    let files = c.args.linked.now.files in
    let free = collision_free files c.files-files.ensures.clean.clean c.args.target c.requires.target c.args.to.now c.in_ok-collides.field-0 c.if-branch.false c.in_ok-collides.ensures c.requires.before in
    capture_free files c.files-files.ensures.clean.clean c.args.target c.requires.target c.args.to.now (subst (IsFirst files c.files-files.ensures.clean.clean c.args.target c.requires.target c.args.to.now) c.in-None.is c.in_ok-first_captured.ensures) free

pub returns-in_ok-captured_refusal-in-Some-clause-err : goal.returns-in_ok-captured_refusal-in-Some-clause-err
returns-in_ok-captured_refusal-in-Some-clause-err c =
    let files = c.args.linked.now.files in
    let reads = c.files-files.ensures.clean.reads in
    let r = c.files-files.ensures.clean.read in
    let t = c.requires.target reads r in
    let first = subst (IsFirst files c.files-files.ensures.clean.clean c.args.target c.requires.target c.args.to.now) c.in-Some.is c.in_ok-first_captured.ensures in
    let free = collision_free files c.files-files.ensures.clean.clean c.args.target c.requires.target c.args.to.now c.in_ok-collides.field-0 c.if-branch.false c.in_ok-collides.ensures c.requires.before in
    capture_refused files c.files-files.ensures.clean.clean c.args.target c.requires.target c.args.to.now reads r c.in-Some.reference first (captured_inside files reads r t.0 c.args.to.now c.in-Some.reference (first reads r t.0 t.1)) c.in_ok-captured_refusal-in-Some.field-0 (rw c.files-files.ensures.files at c.in_ok-captured_refusal-in-Some.ensures) free
