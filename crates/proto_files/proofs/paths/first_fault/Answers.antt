use Rattle.std.proofs.Common.{arith, sym, ◌∙◌}
use Rattle.proto_files.proofs.FirstFaultSteps.{first_fault_stops, first_fault_goes, first_fault_ends}
use Rattle.proto_files.proofs.paths.first_fault.Goals as goal

pub returns-in-Some-fault_before-clause-fault : goal.returns-in-Some-fault_before-clause-fault
returns-in-Some-fault_before-clause-fault c =
    first_fault_stops _ _ c.loop-file.left.now c.in-Some.file.now c.in-Some.rest.now c.as_str.result.now _ _
    c.in-Some.ensures.cases.0 c.as_str.ensures.value (sym c.in-Some-fault_before.is ∙ c.fault_before.ensures) c.loop-file.invariant.1

pub loop-file-preserved : goal.loop-file-preserved
loop-file-preserved c = (
  omega (arith, c.in-Some.ensures.cases.1),
  first_fault_goes _ _ c.loop-file.left.now c.in-Some.file.now c.in-Some.rest.now c.as_str.result.now _
      c.in-Some.ensures.cases.0 c.as_str.ensures.value (sym c.in_default-fault_before.is ∙ c.fault_before.ensures) c.loop-file.invariant.1,
)

pub returns-clause-fault : goal.returns-clause-fault
returns-clause-fault c = first_fault_ends _ _ c.loop-file.left.now _ c.in_default.ensures.cases c.loop-file.invariant.1
