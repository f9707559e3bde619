use Rattle.std.proofs.Common.{IfOk, sym, subst, ◌∙◌, rules, Option}
use Rattle.std.specs.String.{string_bytes}
use Rattle.proto_desc.proofs.Common.{WorkspaceFaults}
use Rattle.proto_files.proofs.Common.{IsLeastFault, fault_at}
use Rattle.proto_journal_records.specs.Known.{Over}
use Rattle.proto_store.specs.Stores.{Held}
use Rattle.protoref_commands.specs.Common.{TellsFault}
use Rattle.protoref_commands.proofs.Printing.{printed_compiles, uncompiled}
use Rattle.protoref_commands.proofs.running.compile_answer.Goals as goal

pub returns-in-Ok-clause-outcome : goal.returns-in-Ok-clause-outcome
returns-in-Ok-clause-outcome g c =
    let held : Option Held = g.S.Store.holds c.args.store.now in
    let after : Option Held = g.S.Store.holds c.open_printed.new.store in
    printed_compiles held after c.in-Ok.field-0.files (string_bytes c.in-Ok.field-0.text) c.descriptors_answer.result c.in-Ok.ensures.compiles c.open_printed.ensures.same
    c.in-Ok.ensures.text c.are_read.ensures c.descriptors_answer.ensures.text c.descriptors_answer.ensures.status c.descriptors_answer.ensures.err

pub faulty-requires-clause-least : goal.faulty-requires-clause-least
faulty-requires-clause-least g c =
    let held : Option Held = g.S.Store.holds c.args.store.now in
    let least : Over held (λ now. IsLeastFault (WorkspaceFaults now.files) (fault_at c.in-Err-Schema.fault)) = search rules in
    rw (c.in-Err-Schema.fault-is) (subst (λ (h : Option Held). Over h (λ now. IsLeastFault (WorkspaceFaults now.files) (fault_at c.in-Err-Schema.fault))) (sym c.open_printed.ensures.same) least)

pub returns-in-Err-Schema-clause-outcome : goal.returns-in-Err-Schema-clause-outcome
returns-in-Err-Schema-clause-outcome g c =
    uncompiled (g.S.Store.holds c.args.store.now) (g.S.Store.holds c.faulty.new.store) c.faulty.result
    (subst (λ (h : Option Held). IfOk c.faulty.result (TellsFault h)) c.open_printed.ensures.same c.faulty.ensures.told) c.faulty.ensures.unwritten
    (c.faulty.ensures.same ∙ c.open_printed.ensures.same)
