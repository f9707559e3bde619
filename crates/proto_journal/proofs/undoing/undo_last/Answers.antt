use Rattle.std.proofs.Common.{ℕ, sym, subst, Option}
use Rattle.std.proofs.lemmas.Result.{err_from_is_err_and}
use Rattle.proto_journal_records.specs.Known.{CountsJournal}
use Rattle.proto_store.specs.Stores.{Held, HoldsFiles, HoldsJournal}
use Rattle.proto_journal.specs.Undoing.{UndoOutcome}
use Rattle.proto_journal.proofs.Undone.{not_ready}
use Rattle.proto_journal.proofs.undoing.undo_last.Goals as goal

pub returns-in_err-journal-clause-outcome : goal.returns-in_err-journal-clause-outcome
returns-in_err-journal-clause-outcome g c =
    let p = err_from_is_err_and c.from_residual.result c.from_residual.ensures.1 in
    rw (p.1, p.2) (not_ready c.args.workspace.now (g.S.Store.holds c.args.store.now) (g.S.Store.holds c.ready_journal.new.store) _ c.ready_journal.ensures.same c.in_err-journal.ensures.outcome)

pub returns-in_err-journal-clause-count : goal.returns-in_err-journal-clause-count
returns-in_err-journal-clause-count g c =
    let p = err_from_is_err_and c.from_residual.result c.from_residual.ensures.1 in
    rw (p.1, p.2) c.in_err-journal.ensures.count

pub put_back-requires-clause-journal : goal.put_back-requires-clause-journal
put_back-requires-clause-journal g c = subst (λ (h : Option Held). HoldsJournal h c.in_ok-journal.journal) (sym c.ready_journal.ensures.same) c.in_ok-journal.ensures.bytes

pub put_back-requires-clause-loaded : goal.put_back-requires-clause-loaded
put_back-requires-clause-loaded g c = subst (λ (h : Option Held). HoldsFiles h c.args.workspace.now) (sym c.ready_journal.ensures.same) c.requires.loaded

pub returns-clause-outcome : goal.returns-clause-outcome
returns-clause-outcome g c =
    subst (λ (h : Option Held). UndoOutcome c.args.workspace.now c.put_back.new.workspace h (g.S.Store.holds c.put_back.new.store) c.put_back.result) c.ready_journal.ensures.same c.put_back.ensures.outcome

pub returns-clause-count : goal.returns-clause-count
returns-clause-count g c = subst (λ (n : ℕ). CountsJournal n (g.S.Store.failure_count c.put_back.new.store) c.put_back.result) c.in_ok-journal.ensures.count c.put_back.ensures.count
