use Rattle.std.proofs.Common.{ℕ, subst}
use Rattle.proto_journal_records.specs.Known.{CountsJournal}
use Rattle.proto_journal.proofs.reading.ready_journal.Goals as goal

pub returns-in-Ok-clause-count : goal.returns-in-Ok-clause-count
returns-in-Ok-clause-count g c =
    subst (λ (n : ℕ). CountsJournal n (g.S.Store.failure_count c.read_journal.new.self) c.read_ready.result) c.in-Ok.ensures.count (c.read_ready.ensures.count (g.S.Store.failure_count c.read_journal.new.self))
