use Rattle.std.proofs.Common.{List, ◌+◌, ap, arith, map, subst, take, take_all}
use Rattle.proto_edit_entries.specs.declared.entry.Change.{Change}
use Rattle.proto_edit_entries.specs.Entries.{change_of}
use Rattle.proto_journal_records.specs.Common.{change_data, AreTextual}
use Rattle.proto_journal_records.proofs.DataTexts.{adds_array, adds_item, made_more, on_ok}
use Rattle.proto_journal_records.proofs.RecordTexts.{textual_more}
use Rattle.proto_journal_records.proofs.writing.write_changes.Goals as goal

pub loop-change-preserved : goal.loop-change-preserved
loop-change-preserved c =
    let i = c.loop-change.change-index in
    let cs = c.args.changes.now in
    record {
      added = adds_item c.args.writer.now c.loop-change.writer c.write_change.new.writer (map change_data (map change_of (take i cs))) (map change_data (map change_of (take (i + 1) cs))) (change_data (change_of c.change-item.result))
          c.loop-change.invariant.added c.in_ok-write_change.ensures.written (made_more change_of change_data cs i c.change-item.result c.loop-change-test.true c.change-item.is);
      texts = textual_more cs i c.change-item.result c.loop-change-test.true c.change-item.is c.loop-change.invariant.texts c.in_ok-write_change.ensures.texts;
    }

pub returns-clause-written : goal.returns-clause-written
returns-clause-written c =
    let i = c.loop-change.change-index in
    let cs = c.args.changes.now in
    adds_array c.end_array.result c.args.writer.now c.loop-change.writer c.end_array.new.self (map change_data (map change_of (take i cs))) (map change_data (map change_of cs))
    c.loop-change.invariant.added (ap (λ (l : List Change). map change_data (map change_of l)) (take_all i cs (omega (arith, c.loop-change-test.false)))) c.end_array.ensures

pub returns-clause-texts : goal.returns-clause-texts
returns-clause-texts c =
    on_ok c.end_array.result (subst (λ (cs : List Change). AreTextual (map change_of cs)) (take_all c.loop-change.change-index c.args.changes.now (omega (arith, c.loop-change-test.false))) c.loop-change.invariant.texts)
