use Rattle.protoref_test_cases.proofs.Leading.{led_next}
use Rattle.protoref_test_cases.proofs.edited.expect_answers.Goals as goal

pub loop-step-preserved : goal.loop-step-preserved
loop-step-preserved c =
    led_next c.args.edited.now.workspace c.loop-step.edited.workspace c.expect_step.new.edited.workspace
    c.args.edited.now.entries.items c.loop-step.edited.entries.items c.expect_step.new.edited.entries.items
    c.args.steps.now c.loop-step.step-index _ c.loop-step-test.true c.loop-step.invariant c.in_ok-expect_step.ensures
