use Rattle.std.proofs.Common.{map, sym, subst, take}
use Rattle.proto_base.proofs.Common.{Appends, Appends-nil, Appends-trans, err_from_is_err_and}
use Rattle.proto_edit_entries.specs.Entries.{change_of}
use Rattle.protoref_output.specs.EditLines.{changed_line, changed_lines}
use Rattle.protoref_output.proofs.ChangeLines.{changes_more, lines_begun}
use Rattle.protoref_output.proofs.edit_lines.write_changes.Goals as goal

pub loop-change-init : goal.loop-change-init
loop-change-init g c = Appends-nil (g.W.Write.contents c.args.writer.now)

pub loop-change-preserved : goal.loop-change-preserved
loop-change-preserved g c =
    let contents = g.W.Write.contents in
    let done = changed_lines (map change_of (take c.loop-change.change-index c.args.changes.now)) in
    subst (Appends (contents c.args.writer.now) (contents c.write_change.new.writer))
    (sym (changes_more c.args.changes.now c.loop-change.change-index c.change-item.result c.loop-change-test.true c.change-item.is))
    (Appends-trans (contents c.args.writer.now) (contents c.loop-change.writer) (contents c.write_change.new.writer) done (changed_line (change_of c.change-item.result))
    c.loop-change.invariant c.in_ok-write_change.ensures.ok)

pub returns-in_err-write_change-clause-err : goal.returns-in_err-write_change-clause-err
returns-in_err-write_change-clause-err g c =
    let contents = g.W.Write.contents in
    let p = err_from_is_err_and c.from_residual.result c.from_residual.ensures.1 in
    rw (p.1)
    (lines_begun (contents c.args.writer.now) (contents c.loop-change.writer) (contents c.write_change.new.writer) c.args.changes.now c.loop-change.change-index c.change-item.result
    c.loop-change-test.true c.change-item.is c.loop-change.invariant c.in_err-write_change.ensures.err)
