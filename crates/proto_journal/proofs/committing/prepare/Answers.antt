use Rattle.std.proofs.lemmas.Result.{err_from_is_err_and}
use Rattle.proto_edit.specs.Answers.{asked}
use Rattle.proto_journal.proofs.Committed.{refused, unwritten}
use Rattle.proto_journal.proofs.committing.prepare.Goals as goal

pub returns-in_err-next-clause-err : goal.returns-in_err-next-clause-err
returns-in_err-next-clause-err c =
    let p = err_from_is_err_and c.from_residual.result c.from_residual.ensures.1 in
    rw (p.1, p.2) (refused c.args.workspace.now (asked c.args.edit.now) c.args.journal.now _ c.in_err-next.ensures.err)

pub returns-in-Err-clause-err : goal.returns-in-Err-clause-err
returns-in-Err-clause-err c =
    unwritten c.args.workspace.now (asked c.args.edit.now) c.args.journal.now c.in_ok-next.entry c.in_ok-next.next c.in-Err.fault c.in_ok-next.ensures.ok c.in-Err.ensures.err

pub with_entry-requires : goal.with_entry-requires
with_entry-requires c =
    c.accepted_are_notable.ensures c.args.workspace.now (asked c.args.edit.now) c.in_ok-next.entry c.in_ok-next.next c.files.ensures.compiled c.in_ok-next.ensures.ok
