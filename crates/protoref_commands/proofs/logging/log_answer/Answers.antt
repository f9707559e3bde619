use Rattle.std.proofs.Common.{ℕ, List, subst}
use Rattle.protoref_commands.specs.Logs.{TellsLog}
use Rattle.protoref_commands.proofs.Tellings.{log_answers}
use Rattle.protoref_commands.proofs.logging.log_answer.Goals as goal

pub returns-clause-outcome : goal.returns-clause-outcome
returns-clause-outcome g c =
    let told : TellsLog c.in_ok-journal.journal.items c.log_of.result = subst (λ (l : List ℕ). TellsLog l c.log_of.result) c.as_slice.ensures.value c.log_of.ensures in
    log_answers (g.S.Store.holds c.args.store.now) (g.S.Store.holds c.read_journal.new.self) c.in_ok-journal.journal.items c.log_of.result c.in_ok-journal.ensures.bytes
    c.read_journal.ensures.same told
