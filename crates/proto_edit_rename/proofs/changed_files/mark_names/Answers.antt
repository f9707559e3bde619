use Rattle.std.proofs.Common.{arith}
use Rattle.proto_edit_rename.proofs.ChangedMarks.{all_rows, rows_turn}
use Rattle.proto_edit_rename.proofs.changed_files.mark_names.Goals as goal

pub loop-place-preserved : goal.loop-place-preserved
loop-place-preserved c =
    let rows = c.args.declared.now.rows.now in
    rows_turn c.args.link.now c.args.name.now rows c.loop-place.place _ c.loop-place.changed _ _ (omega (arith, c.loop-place-test.true, c.len-place-end.ensures)) c.declared_name.ensures c.mark_name.ensures c.loop-place.invariant

pub returns : goal.returns
returns c =
    let rows = c.args.declared.now.rows.now in
    all_rows c.args.link.now c.args.name.now rows c.loop-place.place _ _ (omega (arith, c.loop-place-test.false, c.len-place-end.ensures)) c.loop-place.invariant
