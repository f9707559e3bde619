use Rattle.std.proofs.lemmas.Result.{err_from_is_err_and}
use Rattle.proto_edit_rename.proofs.renaming.changes_of_rename.Goals as goal

pub returns-in_err-check_word-clause-err : goal.returns-in_err-check_word-clause-err
returns-in_err-check_word-clause-err c =
    let p = err_from_is_err_and c.from_residual.result c.from_residual.ensures.1 in
    rw (p.1, p.2) c.in_err-check_word.ensures.err

pub returns-in_err-check_names-clause-err : goal.returns-in_err-check_names-clause-err
returns-in_err-check_names-clause-err c =
    let p = err_from_is_err_and c.from_residual-in_err-check_names.result c.from_residual-in_err-check_names.ensures.1 in
    rw (p.1, p.2) c.in_err-check_names.ensures.err

pub returns-in_err-check_members-clause-err : goal.returns-in_err-check_members-clause-err
returns-in_err-check_members-clause-err c =
    let p = err_from_is_err_and c.from_residual-in_err-check_members.result c.from_residual-in_err-check_members.ensures.1 in
    rw (p.1, p.2) c.in_err-check_members.ensures.err

pub returns-in_err-changes-clause-err : goal.returns-in_err-changes-clause-err
returns-in_err-changes-clause-err c =
    let p = err_from_is_err_and c.from_residual-in_err-changes.result c.from_residual-in_err-changes.ensures.1 in
    rw (p.1, p.2) c.in_err-changes.ensures.err

pub returns-in_err-check_values-clause-err : goal.returns-in_err-check_values-clause-err
returns-in_err-check_values-clause-err c =
    let p = err_from_is_err_and c.from_residual-in_err-check_values.result c.from_residual-in_err-check_values.ensures.1 in
    rw (p.1, p.2) c.in_err-check_values.ensures.err

pub returns-in_err-check_fixed-clause-err : goal.returns-in_err-check_fixed-clause-err
returns-in_err-check_fixed-clause-err c =
    let p = err_from_is_err_and c.from_residual-in_err-check_fixed.result c.from_residual-in_err-check_fixed.ensures.1 in
    rw (p.1, p.2) c.in_err-check_fixed.ensures.err

pub returns-clause-ok : goal.returns-clause-ok
returns-clause-ok c = record { admissible = c.in_ok-check_fixed.ensures.free; changes = c.in_ok-changes.ensures.changes }
