use Rattle.std.proofs.lemmas.Result.{err_from_is_err_and}
use Rattle.proto_names_rules.specs.Grown.{at}
use Rattle.proto_edit_captures.proofs.Aimed.{aimed_at, is_spelled, no_target}
use Rattle.proto_edit_captures.proofs.finding.find_target.Goals as goal

pub returns-in_err-found-clause-err : goal.returns-in_err-found-clause-err
returns-in_err-found-clause-err c =
    let p = err_from_is_err_and c.from_residual.result c.from_residual.ensures.1 in
    rw (p.1, p.2) (no_target c.args.linked.now.files c.args.linked.now.link c.link-link.ensures.clean.link c.link-link.ensures.clean.clean c.args.name.now c.in_err-found.field-0.0 (rw c.link-link.ensures.link at c.in_err-found.ensures.err))

pub has_entry-requires : goal.has_entry-requires
has_entry-requires c =
    let files = c.args.linked.now.files in
    let l = c.args.linked.now.link in
    let found = c.in_ok-found.found in
    let first = is_spelled files c.link-link.ensures.clean.reads c.link-link.ensures.clean.read c.link-link.ensures.clean.clean l (c.link-link.ensures.clean.link c.link-link.ensures.clean.reads c.link-link.ensures.clean.read) found.name.now found.kind (at found.file found.token) (rw c.link-link.ensures.link at c.in_ok-found.ensures.ok) c.in_ok-found.ensures.kind in
    (first.0.0, λ reads are. (is_spelled files reads are c.link-link.ensures.clean.clean l (c.link-link.ensures.clean.link reads are) found.name.now found.kind (at found.file found.token) (rw c.link-link.ensures.link at c.in_ok-found.ensures.ok) c.in_ok-found.ensures.kind).1)

pub returns-clause-ok : goal.returns-clause-ok
returns-clause-ok c = λ reads are.
    aimed_at c.args.linked.now.files reads are c.link-link.ensures.clean.clean c.args.linked.now.link (c.link-link.ensures.clean.link reads are) _ (rw c.link-link.ensures.link at c.in_ok-found.ensures.ok) c.in_ok-found.ensures.kind (c.in_ok-is_map.ensures reads are)

pub returns-clause-file : goal.returns-clause-file
returns-clause-file c =
    let found = c.in_ok-found.found in
    (is_spelled c.args.linked.now.files c.link-link.ensures.clean.reads c.link-link.ensures.clean.read c.link-link.ensures.clean.clean c.args.linked.now.link (c.link-link.ensures.clean.link c.link-link.ensures.clean.reads c.link-link.ensures.clean.read) found.name.now found.kind (at found.file found.token) (rw c.link-link.ensures.link at c.in_ok-found.ensures.ok) c.in_ok-found.ensures.kind).0.0

pub returns-clause-inside : goal.returns-clause-inside
returns-clause-inside c = λ reads are.
    let found = c.in_ok-found.found in
    (is_spelled c.args.linked.now.files reads are c.link-link.ensures.clean.clean c.args.linked.now.link (c.link-link.ensures.clean.link reads are) found.name.now found.kind (at found.file found.token) (rw c.link-link.ensures.link at c.in_ok-found.ensures.ok) c.in_ok-found.ensures.kind).0
