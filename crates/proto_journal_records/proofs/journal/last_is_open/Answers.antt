use Rattle.std.proofs.Common.{arith, ◌∙◌, ap, sym, length, ◌-◌}
use Rattle.proto_journal_records.specs.Journals.{is_open}
use Rattle.proto_journal_records.proofs.JournalLists.{last_open}
use Rattle.proto_journal_records.proofs.journal.last_is_open.Goals as goal

pub returns-in-Open : goal.returns-in-Open
returns-in-Open c = ap is_open (sym c.in-Open.is ∙ c.state.ensures) ∙ last_open c.args.records.now (length c.args.records.now - 1) c.last-item.result (omega arith) c.last-item.is

pub returns-in-Done : goal.returns-in-Done
returns-in-Done c = ap is_open (sym c.in-Done.is ∙ c.state.ensures) ∙ last_open c.args.records.now (length c.args.records.now - 1) c.last-item.result (omega arith) c.last-item.is
