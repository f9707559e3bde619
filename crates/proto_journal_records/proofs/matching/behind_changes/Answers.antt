use Rattle.std.proofs.Common.{List, arith, map, subst, take_all}
use Rattle.proto_edit_entries.specs.declared.entry.Change.{Change}
use Rattle.proto_edit_entries.specs.Entries.{change_of}
use Rattle.proto_journal_records.specs.Common.{change_data, AreTextual}
use Rattle.proto_journal_records.proofs.Behind.{behind_end, behind_item}
use Rattle.proto_journal_records.proofs.RecordTexts.{textual_more}
use Rattle.proto_journal_records.proofs.matching.behind_changes.Goals as goal

pub loop-change-preserved : goal.loop-change-preserved
loop-change-preserved c =
    let loop = c.loop-change in
    let x = c.change-item.result in
    let cs = c.args.changes.now in
    record {
      behind = λ o more. loop.invariant.behind o (behind_item change_of change_data cs loop.change-index x loop.is_later loop.rest c.behind_comma-rest.result c.behind_change-rest.result o
          c.loop-change-test.true c.change-item.is c.behind_comma-rest.ensures c.behind_change-rest.ensures.behind more);
      texts = textual_more cs loop.change-index x c.loop-change-test.true c.change-item.is loop.invariant.texts c.behind_change-rest.ensures.texts;
    }

pub returns-clause-behind : goal.returns-clause-behind
returns-clause-behind c =
    let loop = c.loop-change in
    loop.invariant.behind c.behind.result (behind_end change_of change_data c.args.changes.now loop.change-index loop.is_later loop.rest c.behind.result (omega (arith, c.loop-change-test.false)) c.behind.ensures)

pub returns-clause-texts : goal.returns-clause-texts
returns-clause-texts c =
    subst (λ (cs : List Change). AreTextual (map change_of cs)) (take_all c.loop-change.change-index c.args.changes.now (omega (arith, c.loop-change-test.false))) c.loop-change.invariant.texts
