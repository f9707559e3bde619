use Rattle.std.proofs.Common.{[], map, Some, sym, ◌∙◌}
use Rattle.proto_base.proofs.Common.{IfOk-weaker}
use Rattle.proto_files.specs.Faults.{fault_at}
use Rattle.proto_ast.specs.Numbers.{past}
use Rattle.proto_names_faults.specs.AllFaults.{AreAllOf, ImportFaults, NameFaults, ReferenceFaults}
use Rattle.proto_all_faults.specs.Common.{FileFaultsUpTo, FirstPhase}
use Rattle.proto_all_faults.proofs.FilePhases.{imports_first, names_first, no_names, references_first}
use Rattle.proto_all_faults.proofs.links.faults_of_phase.Goals as goal

pub reference_faults-requires : goal.reference_faults-requires
reference_faults-requires c =
    record { names = no_names (Some past) c.args.files.now c.requires.read [] (fault_at c.args.least.now) c.requires.least (λ e. c.if-phase-eq3.false (c.phase-phase.ensures ∙ e)) (λ e. c.if-phase-eq4.false (c.phase-phase.ensures ∙ e)) }

pub returns-then-phase-eq3 : goal.returns-then-phase-eq3
returns-then-phase-eq3 c =
    let files = c.args.files.now in
    IfOk-weaker c.import_faults.result (λ v. AreAllOf (ImportFaults files) (map fault_at v.items)) (λ v. AreAllOf (FirstPhase (FileFaultsUpTo (Some past) files)) (map fault_at v.items))
    (λ v all. imports_first (Some past) files c.requires.read (map fault_at v.items) (fault_at c.args.least.now) c.requires.least (sym c.phase-phase.ensures ∙ c.if-phase-eq3.true) all) c.import_faults.ensures.exact

pub returns-then-phase-eq4 : goal.returns-then-phase-eq4
returns-then-phase-eq4 c =
    let files = c.args.files.now in
    IfOk-weaker c.name_faults.result (λ v. AreAllOf (NameFaults files) (map fault_at v.items)) (λ v. AreAllOf (FirstPhase (FileFaultsUpTo (Some past) files)) (map fault_at v.items))
    (λ v all. names_first (Some past) files c.requires.read (map fault_at v.items) (fault_at c.args.least.now) c.requires.least (sym c.phase-phase.ensures ∙ c.if-phase-eq4.true) all) c.name_faults.ensures.exact

pub returns-else-phase-eq4 : goal.returns-else-phase-eq4
returns-else-phase-eq4 c =
    let files = c.args.files.now in
    IfOk-weaker c.reference_faults.result (λ v. AreAllOf (ReferenceFaults files) (map fault_at v.items)) (λ v. AreAllOf (FirstPhase (FileFaultsUpTo (Some past) files)) (map fault_at v.items))
    (λ v all. references_first (Some past) files c.requires.read (map fault_at v.items) (fault_at c.args.least.now) c.requires.least (λ e. c.if-phase-eq3.false (c.phase-phase.ensures ∙ e)) (λ e. c.if-phase-eq4.false (c.phase-phase.ensures ∙ e)) all) c.reference_faults.ensures.exact
