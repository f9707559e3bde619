use Rattle.std.proofs.Common.{rules}
use Rattle.proto_journal_records.proofs.fault.JournalFault.number.Goals as goal

pub returns-in-JournalFull : goal.returns-in-JournalFull
returns-in-JournalFull c = search rules
