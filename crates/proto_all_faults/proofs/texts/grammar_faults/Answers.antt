use Rattle.std.proofs.Common.{map, ap, arith}
use Rattle.proto_files.specs.Common.{IsGrammarFault, GrammarFaults, fault_at, files_of_as}
use Rattle.proto_all_faults.proofs.FirstPhases.{in_their_order}
use Rattle.proto_all_faults.proofs.TextLists.{no_text_fault_at, none_yet, read_end, read_turn}
use Rattle.proto_all_faults.proofs.texts.grammar_faults.Goals as goal

pub loop-file-init : goal.loop-file-init
loop-file-init c = none_yet IsGrammarFault _ (ap (map fault_at) c.new-found.ensures.items)

pub add_grammar_fault-requires : goal.add_grammar_fault-requires
add_grammar_fault-requires c = no_text_fault_at c.args.profile c.args.given.now c.loop-file.file-index c.file-item.result c.as_str.result.now c.deref.result.now c.requires c.loop-file-test.true c.file-item.is c.as_str.ensures.value c.deref.ensures.value

pub loop-file-preserved : goal.loop-file-preserved
loop-file-preserved c =
    read_turn IsGrammarFault c.args.profile c.args.given.now c.loop-file.file-index c.file-item.result c.as_str.result.now c.deref.result.now (map fault_at c.loop-file.found.items) (map fault_at c.add_grammar_fault.new.found.items)
    c.loop-file-test.true c.file-item.is c.as_str.ensures.value c.deref.ensures.value c.in_ok-add_grammar_fault.ensures c.loop-file.invariant

pub returns : goal.returns
returns c =
    let given = c.args.given.now in
    let found = map fault_at c.loop-file.found.items in
    in_their_order (GrammarFaults (files_of_as c.args.profile given)) found (map fault_at c.in_order.result.items)
    (read_end IsGrammarFault c.args.profile given c.loop-file.file-index found (omega (arith, c.loop-file-test.false)) c.loop-file.invariant)
    c.in_order.ensures.rising c.in_order.ensures.same
