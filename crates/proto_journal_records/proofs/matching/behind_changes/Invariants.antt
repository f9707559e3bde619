use Rattle.std.proofs.Common.{List, ℕ, Option, Bor, drop, take, map}
use Rattle.serde_json.specs.Data.{array}
use Rattle.serde_json.specs.View.{items_of}
use Rattle.serde_json.specs.Written.{compact_text, items_text}
use Rattle.proto_edit_entries.specs.Entries.{change_of}
use Rattle.proto_journal_records.specs.Behind.{IsBehind}
use Rattle.proto_journal_records.specs.Common.{change_data, AreTextual}
use Rattle.proto_journal_records.proofs.matching.behind_changes.Given as goal

abbrev pub invariant-loop-change : goal.invariant-loop-change
invariant-loop-change l = record {
  behind : (o : Option (Bor (List ℕ))) → IsBehind (items_text l.is_later (items_of (map change_data (map change_of (drop l.change-index l.changes))))) l.rest o
      → IsBehind (compact_text (array (items_of (map change_data (map change_of l.changes))))) l.fn.bytes o;
  texts : AreTextual (map change_of (take l.change-index l.changes));
}
