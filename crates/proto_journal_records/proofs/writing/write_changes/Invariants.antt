use Rattle.std.proofs.Common.{◌∷◌, map, take}
use Rattle.json.specs.Token.{begin_array}
use Rattle.proto_edit_entries.specs.Entries.{change_of}
use Rattle.proto_journal_records.specs.Common.{change_data, AreTextual}
use Rattle.proto_journal_records.specs.DataTokens.{AddsTokens}
use Rattle.proto_journal_records.proofs.DataTexts.{all_tokens}
use Rattle.proto_journal_records.proofs.writing.write_changes.Given as goal

abbrev pub invariant-loop-change : goal.invariant-loop-change
invariant-loop-change l = record {
  added : AddsTokens l.fn.writer l.writer (begin_array ∷ all_tokens (map change_data (map change_of (take l.change-index l.changes))));
  texts : AreTextual (map change_of (take l.change-index l.changes));
}
