use Rattle.std.proofs.lemmas.Result.{err_from_is_err_and}
use Rattle.proto_journal.proofs.reading.ready.Goals as goal

pub returns-in_err-ready_journal-clause-outcome : goal.returns-in_err-ready_journal-clause-outcome
returns-in_err-ready_journal-clause-outcome g c =
    let p = err_from_is_err_and c.from_residual.result c.from_residual.ensures.1 in
    rw (p.1, p.2) c.in_err-ready_journal.ensures.outcome

pub returns-in_err-ready_journal-clause-count : goal.returns-in_err-ready_journal-clause-count
returns-in_err-ready_journal-clause-count g c =
    let p = err_from_is_err_and c.from_residual.result c.from_residual.ensures.1 in
    rw (p.1, p.2) c.in_err-ready_journal.ensures.count
