use Rattle.protoref_test_cases.proofs.WholeRows.{undos_next}
use Rattle.protoref_test_cases.proofs.edited.expect_undos.Goals as goal

pub loop-undo-preserved : goal.loop-undo-preserved
loop-undo-preserved c =
    undos_next c.args.entries.now c.args.workspace.now c.loop-undo.workspace c.expect_undo.new.workspace
    c.args.undos.now c.loop-undo.undo-index _ c.loop-undo-test.true c.loop-undo.invariant c.in_ok-expect_undo.ensures.undone c.in_ok-expect_undo.ensures.files
