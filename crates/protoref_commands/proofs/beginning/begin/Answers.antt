use Rattle.std.proofs.Common.{sym, subst, IfOk, Option}
use Rattle.proto_journal_records.proofs.Common.{IsReady, Over}
use Rattle.proto_store.specs.Stores.{Held}
use Rattle.protoref_commands.specs.Changes.{Begins}
use Rattle.protoref_commands.proofs.Tellings.{not_ready}
use Rattle.protoref_commands.proofs.beginning.begin.Goals as goal

pub load_beginning-requires-clause-ready : goal.load_beginning-requires-clause-ready
load_beginning-requires-clause-ready g c = subst (λ (h : Option Held). Over h IsReady) (sym c.ready_journal.ensures.same) c.in-Ok.ensures.outcome

pub returns-in-Ok-clause-begins : goal.returns-in-Ok-clause-begins
returns-in-Ok-clause-begins g c = subst (λ (h : Option Held). IfOk c.load_beginning.result (Begins h)) c.ready_journal.ensures.same c.load_beginning.ensures.begins

pub returns-in_ok-answer-in-Err-clause-begins : goal.returns-in_ok-answer-in-Err-clause-begins
returns-in_ok-answer-in-Err-clause-begins g c = not_ready (g.S.Store.holds c.args.store.now) c.in-Err.fault c.in_ok-answer-in-Err.answer c.in-Err.ensures.outcome c.in_ok-answer-in-Err.ensures.told
