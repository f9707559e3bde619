use Rattle.std.proofs.Common.{map, take}
use Rattle.protoref_test_cases.specs.RowsHold.{AreLed, written_step}
use Rattle.protoref_test_cases.proofs.edited.expect_answers.Given as goal

abbrev pub invariant-loop-step : goal.invariant-loop-step
invariant-loop-step l = AreLed l.initial.edited.workspace l.initial.edited.entries.items
    (map written_step (take l.step-index l.steps)) l.edited.workspace l.edited.entries.items
