use Rattle.proto_journal.specs.Answers.{asked}
use Rattle.protoref_commands.proofs.Tellings.{commit_told}
use Rattle.protoref_commands.proofs.changing.answer_of_commit.Goals as goal

pub returns-clause-told : goal.returns-clause-told
returns-clause-told g c =
    commit_told (asked c.args.edit) c.args.workspace c.commit_after-outcome.new.workspace c.files.result.now (g.S.Store.holds c.args.store.now) (g.S.Store.holds c.commit_after-outcome.new.store)
    c.commit_after-outcome.result c.outcome_answer-answer.result c.commit_after-outcome.ensures.outcome c.files.ensures.files c.outcome_answer-answer.ensures.told

pub returns-clause-count : goal.returns-clause-count
returns-clause-count g c =
    c.outcome_answer-answer.ensures.count (g.S.Store.failure_count c.args.store.now) (g.S.Store.failure_count c.commit_after-outcome.new.store) c.commit_after-outcome.ensures.count
