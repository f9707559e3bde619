use Rattle.std.proofs.Common.{[], map, sym, ◌∙◌}
use Rattle.proto_base.proofs.Common.{IfOk-weaker}
use Rattle.proto_files.specs.Common.{GrammarFaults, TextFaults, fault_at, files_of_as}
use Rattle.proto_names_faults.specs.AllFaults.{AreAllOf}
use Rattle.proto_all_faults.specs.Common.{AreAllFaults}
use Rattle.proto_all_faults.proofs.GivenPhases.{grammar_first, no_text, texts_first}
use Rattle.proto_all_faults.proofs.listing.faults_of_phase.Goals as goal

pub grammar_faults-requires : goal.grammar_faults-requires
grammar_faults-requires c = no_text (files_of_as c.args.profile c.args.given.now) c.requires.sorted (fault_at c.args.least.now) c.requires.least [] (λ e. c.if-phase-eq1.false (c.phase.ensures ∙ e))

pub returns-then-phase-eq1 : goal.returns-then-phase-eq1
returns-then-phase-eq1 c =
    let given = files_of_as c.args.profile c.args.given.now in
    IfOk-weaker c.text_faults.result (λ v. AreAllOf (TextFaults given) (map fault_at v.items)) (λ v. AreAllFaults given (map fault_at v.items))
    (λ v all. texts_first given c.requires.sorted (fault_at c.args.least.now) c.requires.least (map fault_at v.items) (sym c.phase.ensures ∙ c.if-phase-eq1.true) all) c.text_faults.ensures

pub returns-else-phase-eq1 : goal.returns-else-phase-eq1
returns-else-phase-eq1 c =
    let given = files_of_as c.args.profile c.args.given.now in
    IfOk-weaker c.grammar_faults.result (λ v. AreAllOf (GrammarFaults given) (map fault_at v.items)) (λ v. AreAllFaults given (map fault_at v.items))
    (λ v all. grammar_first given c.requires.sorted (fault_at c.args.least.now) c.requires.least (map fault_at v.items) (λ e. c.if-phase-eq1.false (c.phase.ensures ∙ e)) all) c.grammar_faults.ensures
