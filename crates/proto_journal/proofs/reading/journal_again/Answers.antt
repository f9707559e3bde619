use Rattle.std.proofs.Common.{ℕ, subst}
use Rattle.proto_journal_records.specs.Known.{CountsJournal}
use Rattle.proto_journal.proofs.reading.journal_again.Goals as goal

pub returns-in-Ok-clause-count : goal.returns-in-Ok-clause-count
returns-in-Ok-clause-count g c =
    subst (λ (n : ℕ). CountsJournal n (g.S.Store.failure_count c.read_journal.new.self) c.parsed_again.result) c.in-Ok.ensures.count (c.parsed_again.ensures.count (g.S.Store.failure_count c.read_journal.new.self))
