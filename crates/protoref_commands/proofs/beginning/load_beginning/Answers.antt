use Rattle.std.proofs.Common.{◌<◌, sym, subst, rules, Option}
use Rattle.proto_files.specs.Faults.{FaultAt, fault_at}
use Rattle.protoref_output.proofs.Common.{printed_text, IsLineOver}
use Rattle.proto_store.specs.Stores.{Held, IsListed}
use Rattle.protoref_commands.proofs.Faulted.{least_is_held}
use Rattle.protoref_commands.proofs.Tellings.{has_fault}
use Rattle.protoref_commands.proofs.beginning.load_beginning.Goals as goal

pub fault_answer-requires-clause-listed : goal.fault_answer-requires-clause-listed
fault_answer-requires-clause-listed g c =
    let held : Option Held = g.S.Store.holds c.args.store.now in
    let fault : FaultAt = fault_at c.in-Err-Schema.fault in
    let listed : 0 < fault.offset → IsListed (g.S.Store.holds c.load.new.store) fault.path =
    λ behind. subst (λ l. IsListed l fault.path) (sym c.load.ensures.same) (least_is_held held fault (search rules) behind) in
    rw (c.in-Err-Schema.fault-is) listed

pub returns-in_ok-answer-in-Err-Schema-clause-begins : goal.returns-in_ok-answer-in-Err-Schema-clause-begins
returns-in_ok-answer-in-Err-Schema-clause-begins g c =
    let held : Option Held = g.S.Store.holds c.args.store.now in
    let fault : FaultAt = fault_at c.in-Err-Schema.fault in
    let loaded : IsLineOver (g.S.Store.holds c.load.new.store) fault (printed_text c.in_ok-answer-in-Err-Schema.answer) =
    subst (λ x. IsLineOver (g.S.Store.holds c.load.new.store) (fault_at x) (printed_text c.in_ok-answer-in-Err-Schema.answer)) c.in-Err-Schema.fault-is c.in_ok-answer-in-Err-Schema.ensures.text in
    has_fault held fault c.in_ok-answer-in-Err-Schema.answer c.requires.ready (search rules) (subst (λ (l : Option Held). IsLineOver l fault (printed_text c.in_ok-answer-in-Err-Schema.answer)) c.load.ensures.same loaded)
    c.in_ok-answer-in-Err-Schema.ensures.status
