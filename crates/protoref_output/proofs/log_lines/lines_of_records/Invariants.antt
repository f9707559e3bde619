use Rattle.std.proofs.Common.{◌≡◌, take, string_bytes}
use Rattle.protoref_output.specs.LogLines.{lines_from}
use Rattle.protoref_output.proofs.log_lines.lines_of_records.Given as goal

abbrev pub invariant-loop-record : goal.invariant-loop-record
invariant-loop-record l = record {
  lines : string_bytes l.text ≡ lines_from 1 (take l.record-index l.records);
  index : l.index ≡ l.record-index;
}
