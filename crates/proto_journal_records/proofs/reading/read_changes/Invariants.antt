use Rattle.std.proofs.Common.{◌≡◌, List, map, take, All}
use Rattle.json.specs.Value.{items_view}
use Rattle.serde_json.specs.View.{items_of}
use Rattle.serde_json.specs.Written.{items_outline}
use Rattle.proto_edit_entries.specs.Entries.{ChangeOf, change_of, IsMeasured}
use Rattle.proto_journal_records.specs.RecordText.{change_data}
use Rattle.proto_journal_records.proofs.reading.read_changes.Given as goal

abbrev pub invariant-loop-value : goal.invariant-loop-value
invariant-loop-value l = (cs : List ChangeOf) → All IsMeasured cs → items_view l.value-items ≡ items_outline (items_of (map change_data cs)) → map change_of l.changes.items ≡ take l.value-index cs
