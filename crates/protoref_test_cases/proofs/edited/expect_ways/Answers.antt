use Rattle.std.proofs.Common.{map}
use Rattle.protoref_test_cases.proofs.Outcomes.{on_ok_both}
use Rattle.protoref_test_cases.proofs.WholeRows.{row_holds, undos_hold}
use Rattle.protoref_test_cases.specs.RowsHold.{written_row, undo_of}
use Rattle.protoref_test_cases.proofs.edited.expect_ways.Goals as goal

pub returns-clause-row : goal.returns-clause-row
returns-clause-row c =
    on_ok_both c.expect_after.result c.expect_after.ensures.files c.expect_after.ensures.shown
    (λ ends shown.
    row_holds c.args.edited.now.workspace c.expect_answers.new.edited.workspace c.args.edited.now.entries.items c.expect_answers.new.edited.entries.items
    (written_row c.args.row.now) c.in_ok-expect_first.ensures c.in_ok-expect_answers.ensures ends shown)

pub returns-clause-undos : goal.returns-clause-undos
returns-clause-undos c =
    on_ok_both c.expect_after.result c.expect_after.ensures.files c.expect_after.ensures.back
    (λ ends back none.
    undos_hold c.args.edited.now.workspace c.expect_answers.new.edited.workspace c.args.edited.now.entries.items c.expect_answers.new.edited.entries.items
    (written_row c.args.row.now) c.in_ok-expect_first.ensures c.in_ok-expect_answers.ensures ends (map undo_of c.args.undos.now) none back)
