use Rattle.protoref_commands.proofs.Tellings.{undo_told}
use Rattle.protoref_commands.proofs.changing.answer_of_undo.Goals as goal

pub returns-clause-told : goal.returns-clause-told
returns-clause-told g c =
    undo_told c.args.workspace c.undo_last_after-outcome.new.workspace c.files.result.now (g.S.Store.holds c.args.store.now) (g.S.Store.holds c.undo_last_after-outcome.new.store)
    c.undo_last_after-outcome.result c.outcome_answer-answer.result c.undo_last_after-outcome.ensures.outcome c.files.ensures.files c.outcome_answer-answer.ensures.told

pub returns-clause-count : goal.returns-clause-count
returns-clause-count g c =
    c.outcome_answer-answer.ensures.count (g.S.Store.failure_count c.args.store.now) (g.S.Store.failure_count c.undo_last_after-outcome.new.store) c.undo_last_after-outcome.ensures.count
