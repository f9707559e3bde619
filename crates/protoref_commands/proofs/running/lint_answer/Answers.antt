use Rattle.std.proofs.Common.{IfOk, sym, subst, ◌∙◌, rules, Option}
use Rattle.proto_desc.proofs.Common.{WorkspaceFaults}
use Rattle.proto_files.proofs.Common.{IsLeastFault, fault_at}
use Rattle.proto_journal_records.specs.Known.{Over}
use Rattle.proto_store.specs.Stores.{Held}
use Rattle.protoref_commands.specs.Common.{TellsFault}
use Rattle.protoref_commands.proofs.Printing.{linted_prints, unlinted}
use Rattle.protoref_commands.proofs.running.lint_answer.Goals as goal

pub returns-in-Ok-clause-outcome : goal.returns-in-Ok-clause-outcome
returns-in-Ok-clause-outcome g c =
    let held : Option Held = g.S.Store.holds c.args.store.now in
    let after : Option Held = g.S.Store.holds c.open_checked.new.store in
    linted_prints held after c.in-Ok.schema c.args.rules c.findings_answer-answer.result c.in-Ok.ensures.compiles c.open_checked.ensures.same c.findings_answer-answer.ensures.linted c.findings_answer-answer.ensures.err

pub faulty-requires-clause-least : goal.faulty-requires-clause-least
faulty-requires-clause-least g c =
    let held : Option Held = g.S.Store.holds c.args.store.now in
    let least : Over held (λ now. IsLeastFault (WorkspaceFaults now.files) (fault_at c.in-Err-Schema.fault)) = search rules in
    rw (c.in-Err-Schema.fault-is) (subst (λ (h : Option Held). Over h (λ now. IsLeastFault (WorkspaceFaults now.files) (fault_at c.in-Err-Schema.fault))) (sym c.open_checked.ensures.same) least)

pub returns-in-Err-Schema-clause-outcome : goal.returns-in-Err-Schema-clause-outcome
returns-in-Err-Schema-clause-outcome g c =
    unlinted (g.S.Store.holds c.args.store.now) (g.S.Store.holds c.faulty.new.store) c.args.rules c.faulty.result
    (subst (λ (h : Option Held). IfOk c.faulty.result (TellsFault h)) c.open_checked.ensures.same c.faulty.ensures.told) c.faulty.ensures.unwritten
    (c.faulty.ensures.same ∙ c.open_checked.ensures.same)
