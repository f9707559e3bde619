use Rattle.proto_journal_records.proofs.Migrations.{migrations_are_one}
use Rattle.proto_journal_records.proofs.recovery_laws.migrations_are_one.Goals as goal

pub returns : goal.returns
returns c = migrations_are_one c.journals_are_read_in_one_way.ensures
