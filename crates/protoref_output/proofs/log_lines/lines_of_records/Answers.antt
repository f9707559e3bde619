use Rattle.std.proofs.Common.{◌≡◌, ◌+◌, ◌++◌, sym, take, ap, ◌∙◌}
use Rattle.protoref_output.specs.LogLines.{lines_from, record_line}
use Rattle.protoref_output.proofs.LogSteps.{records_more}
use Rattle.protoref_output.proofs.log_lines.lines_of_records.Goals as goal

pub loop-record-preserved : goal.loop-record-preserved
loop-record-preserved c =
    let place : c.loop-record.index + 1 ≡ c.loop-record.record-index + 1 = ap (λ n. n + 1) c.loop-record.invariant.index in
    record {
      lines = c.in_ok-add_record.ensures
          ∙ ap (λ l. l ++ record_line (c.loop-record.index + 1) c.record-item.result) c.loop-record.invariant.lines
          ∙ ap (λ n. lines_from 1 (take c.loop-record.record-index c.args.records.now) ++ record_line n c.record-item.result) place
          ∙ sym (records_more c.args.records.now c.loop-record.record-index c.record-item.result c.loop-record-test.true c.record-item.is);
      index = place;
    }
