use Rattle.std.proofs.Common.{ℕ, List, map, subst, ◌∙◌}
use Rattle.std.proofs.lemmas.Result.{on_ok_weaker}
use Rattle.proto_files.specs.Common.{IsGrammarFault, fault_at}
use Rattle.proto_all_faults.specs.Common.{AddsIfAny}
use Rattle.proto_all_faults.proofs.texts.add_grammar_fault.Goals as goal

pub returns-in-Ok : goal.returns-in-Ok
returns-in-Ok c =
    on_ok_weaker c.add_fault_of_source.result
    (λ adds.
    subst (λ (bytes : List ℕ). AddsIfAny IsGrammarFault (record { path = c.args.path.now; bytes = bytes; profile = c.args.profile }) (map fault_at c.args.found.now.items) (map fault_at c.add_fault_of_source.new.found.items)) (c.in-Ok.ensures.new.0 ∙ c.in_ok-from_slice.ensures.items) adds)
    c.add_fault_of_source.ensures
