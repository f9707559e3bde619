use Rattle.std.proofs.Common.{ℕ, sym, subst, Option}
use Rattle.std.proofs.lemmas.Result.{err_from_is_err_and}
use Rattle.proto_edit.specs.Answers.{asked}
use Rattle.proto_journal_records.specs.Known.{CountsJournal}
use Rattle.proto_store.specs.Stores.{Held, HoldsFiles, HoldsJournal}
use Rattle.proto_journal.specs.Commits.{CommitOutcome}
use Rattle.proto_journal.proofs.Committed.{not_ready}
use Rattle.proto_journal.proofs.committing.commit_after.Goals as goal

pub returns-in_err-journal-clause-outcome : goal.returns-in_err-journal-clause-outcome
returns-in_err-journal-clause-outcome g c =
    let p = err_from_is_err_and c.from_residual.result c.from_residual.ensures.1 in
    rw (p.1, p.2) (not_ready (asked c.args.edit) c.args.workspace.now (g.S.Store.holds c.args.store.now) (g.S.Store.holds c.journal_again.new.store) _ c.journal_again.ensures.same c.in_err-journal.ensures.outcome)

pub returns-in_err-journal-clause-count : goal.returns-in_err-journal-clause-count
returns-in_err-journal-clause-count g c =
    let p = err_from_is_err_and c.from_residual.result c.from_residual.ensures.1 in
    rw (p.1, p.2) c.in_err-journal.ensures.count

pub put_edit-requires-clause-journal : goal.put_edit-requires-clause-journal
put_edit-requires-clause-journal g c = subst (λ (h : Option Held). HoldsJournal h c.in_ok-journal.journal) (sym c.journal_again.ensures.same) c.in_ok-journal.ensures.bytes

pub put_edit-requires-clause-loaded : goal.put_edit-requires-clause-loaded
put_edit-requires-clause-loaded g c = subst (λ (h : Option Held). HoldsFiles h c.args.workspace.now) (sym c.journal_again.ensures.same) c.requires.loaded

pub returns-clause-outcome : goal.returns-clause-outcome
returns-clause-outcome g c =
    subst (λ (h : Option Held). CommitOutcome (asked c.args.edit) c.args.workspace.now c.put_edit.new.workspace h (g.S.Store.holds c.put_edit.new.store) c.put_edit.result) c.journal_again.ensures.same c.put_edit.ensures.outcome

pub returns-clause-count : goal.returns-clause-count
returns-clause-count g c = subst (λ (n : ℕ). CountsJournal n (g.S.Store.failure_count c.put_edit.new.store) c.put_edit.result) c.in_ok-journal.ensures.count c.put_edit.ensures.count
