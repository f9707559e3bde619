use Rattle.proto_journal_records.proofs.OneRecovery.{recoveries_are_one}
use Rattle.proto_journal_records.proofs.recovery_laws.recoveries_are_one.Goals as goal

pub returns : goal.returns
returns c = recoveries_are_one c.journals_are_read_in_one_way.ensures
