use Rattle.proto_journal_records.proofs.OneRecovery.{cut_stays_torn, torn_comes_back}
use Rattle.proto_journal_records.proofs.recovery_laws.torn_stores_come_back.Goals as goal

pub returns : goal.returns
returns c = record { back = torn_comes_back c.journals_are_read_in_one_way.ensures; cut = cut_stays_torn c.journals_are_read_in_one_way.ensures }
