use Rattle.proto_journal_records.proofs.JournalLists.{journal_grows, journal_migrates, journal_shrinks}
use Rattle.proto_journal_records.proofs.laws.journals_grow_and_shrink.Goals as goal

pub returns : goal.returns
returns c = record { more = journal_grows; less = journal_shrinks; second = journal_migrates }
