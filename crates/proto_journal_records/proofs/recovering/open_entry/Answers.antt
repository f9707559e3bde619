use Rattle.std.proofs.Common.{◌≡◌, List, true, sym, ap, ◌∙◌, Err, subst, Ok, Some}
use Rattle.std.proofs.lemmas.Result.{err_from_is_err_and}
use Rattle.proto_journal_records.specs.Common.{is_last_open, OpenOutcome, RecordOf}
use Rattle.proto_journal_records.proofs.Outcomes.{no_open, open_there}
use Rattle.proto_edit_entries.specs.Entries.{ChangeOf}
use Rattle.proto_journal_records.proofs.recovering.open_entry.Goals as goal

pub returns-in_err-records : goal.returns-in_err-records
returns-in_err-records c =
    let p = err_from_is_err_and c.from_residual.result c.from_residual.ensures.1 in
    rw (p.1, p.2) (no_open c.args.journal.now _ c.in_err-records.ensures.err (λ e. c.read_records.ensures.bad (c.in_err-records.was ∙ ap Err e)))

pub returns-in-Some : goal.returns-in-Some
returns-in-Some c =
    let records : List RecordOf = c.in_ok-records.records.items in
    let is : is_last_open records ≡ true = ap is_last_open (sym c.as_slice.ensures.value) ∙ sym c.last_is_open.ensures ∙ c.if-not-last_is_open.false in
    subst (λ (e : List ChangeOf). OpenOutcome c.args.journal.now (Ok (Some e))) (sym c.into_entry.ensures)
    (open_there c.args.journal.now records c.pop.new.self.items c.in-Some.last c.in_ok-records.ensures.ok is c.in-Some.ensures.items)
