use Rattle.std.proofs.Common.{List, ℕ, sym, subst}
use Rattle.std.specs.Prelude.{Option}
use Rattle.std.proofs.lemmas.Result.{err_from_is_err_and}
use Rattle.proto_store.specs.Stores.{Held, HoldsJournal}
use Rattle.proto_journal_records.proofs.Migrations.{not_migrated}
use Rattle.proto_journal_records.proofs.migrating.migrate.Goals as goal

pub returns-in_err-text-clause-outcome : goal.returns-in_err-text-clause-outcome
returns-in_err-text-clause-outcome g c =
    let old : Option Held = g.S.Store.holds c.args.store.now in
    let new : Option Held = g.S.Store.holds c.read_journal.new.self in
    let p = err_from_is_err_and c.from_residual.result c.from_residual.ensures.1 in
    let there : HoldsJournal old c.as_slice.result.now = subst (λ (t : List ℕ). HoldsJournal old t) (sym c.as_slice.ensures.value) c.in-Ok.ensures.bytes in
    rw (p.1, p.2) (not_migrated old new c.as_slice.result.now _ c.read_journal.ensures.same there c.in_err-text.ensures)
