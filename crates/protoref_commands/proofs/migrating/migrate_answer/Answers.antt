use Rattle.std.proofs.Common.{Ok, refl}
use Rattle.protoref_commands.proofs.Migrated.{unmoved_answers}
use Rattle.protoref_commands.proofs.migrating.migrate_answer.Goals as goal

pub returns-in-Ok-clause-outcome : goal.returns-in-Ok-clause-outcome
returns-in-Ok-clause-outcome g c = (Ok c.in-Ok.migrated, c.in-Ok.ensures.outcome, (refl, refl))

pub returns-in-Err-clause-outcome : goal.returns-in-Err-clause-outcome
returns-in-Err-clause-outcome g c =
    unmoved_answers (g.S.Store.holds c.args.store.now) (g.S.Store.holds c.migrate.new.store) c.in-Err.fault c.plain_answer.result c.in-Err.ensures.outcome c.plain_answer.ensures.told

pub returns-in-Err-clause-count : goal.returns-in-Err-clause-count
returns-in-Err-clause-count g c =
    c.plain_answer.ensures.count (g.S.Store.failure_count c.args.store.now) (g.S.Store.failure_count c.migrate.new.store) c.in-Err.ensures.count
