use Rattle.std.proofs.Common.{◌≡◌, ◌<◌, ◌^◌, List, map, take, All}
use Rattle.json.specs.Value.{items_view}
use Rattle.serde_json.specs.View.{items_of}
use Rattle.serde_json.specs.Written.{items_outline}
use Rattle.proto_text.proofs.Common.{Edit, edits}
use Rattle.proto_journal_records.specs.RecordText.{splice_data}
use Rattle.proto_journal_records.proofs.reading.read_splice_list.Given as goal

abbrev pub invariant-loop-value : goal.invariant-loop-value
invariant-loop-value l = (es : List Edit) → All (λ e. e.at < 2 ^ 32) es → items_view l.value-items ≡ items_outline (items_of (map splice_data es)) → edits l.list.items ≡ take l.value-index es
