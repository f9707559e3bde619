use Rattle.std.proofs.Common.{arith, ◌≡◌, ℕ, List, true, false, refl, sym, ap, ◌∙◌, subst, Err}
use Rattle.std.proofs.lemmas.Result.{err_from_is_err_and}
use Rattle.proto_journal_records.proofs.Common.{RecordOf, is_last_open}
use Rattle.proto_store.specs.Stores.{HoldsJournal}
use Rattle.proto_journal.specs.Written.{HasLast}
use Rattle.proto_journal.proofs.Recorded.{counts_unread, last_open_there, last_popped, none_case, not_read, ready_there}
use Rattle.proto_journal.proofs.reading.read_ready.Goals as goal

pub returns-in_err-read-clause-outcome : goal.returns-in_err-read-clause-outcome
returns-in_err-read-clause-outcome c =
    let p = err_from_is_err_and c.from_residual.result c.from_residual.ensures.1 in
    rw (p.1, p.2) (λ held there. not_read held c.as_slice.result.now _ (subst (λ (t : List ℕ). HoldsJournal held t) (sym c.as_slice.ensures.value) there) c.in_err-read.ensures.err
    (λ e. c.read_journal.ensures.bad (c.in_err-read.was ∙ ap Err e)))

pub returns-in_err-read-clause-count : goal.returns-in_err-read-clause-count
returns-in_err-read-clause-count c =
    let p = err_from_is_err_and c.from_residual.result c.from_residual.ensures.1 in
    rw (p.1, p.2) (λ n. counts_unread n n _ refl c.in_err-read.ensures.err)

pub returns-then-last_is_open-clause-outcome : goal.returns-then-last_is_open-clause-outcome
returns-then-last_is_open-clause-outcome c =
    let records : List RecordOf = c.in_ok-read.read.1.items in
    let is : is_last_open records ≡ true = ap is_last_open (sym c.as_slice-2.ensures.value) ∙ sym c.last_is_open.ensures ∙ c.if-last_is_open.true in
    λ held there. last_open_there held c.as_slice.result.now records (subst (λ (t : List ℕ). HoldsJournal held t) (sym c.as_slice.ensures.value) there) (c.in_ok-read.read.0, c.in_ok-read.ensures.ok) is

pub returns-clause-outcome : goal.returns-clause-outcome
returns-clause-outcome c =
    let records : List RecordOf = c.in_ok-read.read.1.items in
    let is : is_last_open records ≡ false = ap is_last_open (sym c.as_slice-2.ensures.value) ∙ sym c.last_is_open.ensures ∙ c.if-last_is_open.false in
    λ held there. ready_there held c.as_slice.result.now c.in_ok-read.read.0 records (subst (λ (t : List ℕ). HoldsJournal held t) (sym c.as_slice.ensures.value) there) c.in_ok-read.ensures.ok is

pub invariant_of-result : goal.invariant_of-result
invariant_of-result c =
    let records : List RecordOf = c.in_ok-read.read.1.items in
    let is : is_last_open records ≡ false = ap is_last_open (sym c.as_slice-2.ensures.value) ∙ sym c.last_is_open.ensures ∙ c.if-last_is_open.false in
    subst (λ (t : List ℕ). HasLast c.in_ok-read.read.0 t c.pop-last.result) c.as_slice.ensures.value
    (last_popped c.as_slice.result.now c.in_ok-read.read.0 records c.pop-last.new.self.items c.pop-last.result c.in_ok-read.ensures.ok is c.pop-last.ensures.items
    (λ none. omega (arith, c.in_ok-read.read.1.ok.0, (none_case _ _ c.pop-last.result c.pop-last.ensures.cases none).0)))
