use Rattle.proto_journal_records.proofs.JournalLists.{read_in_one_way}
use Rattle.proto_journal_records.proofs.laws.journals_are_read_in_one_way.Goals as goal

pub returns : goal.returns
returns c = read_in_one_way
