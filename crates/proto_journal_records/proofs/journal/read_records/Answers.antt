use Rattle.std.proofs.lemmas.Result.{err_from_is_err_and}
use Rattle.proto_journal_records.proofs.journal.read_records.Goals as goal

pub returns-in_err-records-clause-bad : goal.returns-in_err-records-clause-bad
returns-in_err-records-clause-bad c = λ is records j.
    let p = err_from_is_err_and c.from_residual.result c.from_residual.ensures.1 in
    let made = p.1 in
    let from = p.2 in
    let was = c.in_err-records.was in
    let bad = c.in_err-records.ensures.bad (cc) in
    bad records j
