use Rattle.proto_journal_records.proofs.OneRecovery.{recovery_goes_on}
use Rattle.proto_journal_records.proofs.recovery_laws.recovery_goes_on.Goals as goal

pub returns : goal.returns
returns c = recovery_goes_on c.journals_are_read_in_one_way.ensures c.journals_grow_and_shrink.ensures.less
