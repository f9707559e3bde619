use Rattle.std.proofs.Common.{List, ℕ, Option, Bor, drop, map}
use Rattle.serde_json.specs.Data.{array}
use Rattle.serde_json.specs.View.{items_of}
use Rattle.serde_json.specs.Written.{compact_text, items_text}
use Rattle.proto_text.specs.Splicing.{edits}
use Rattle.proto_journal_records.specs.Behind.{IsBehind}
use Rattle.proto_journal_records.specs.RecordText.{splice_data}
use Rattle.proto_journal_records.proofs.matching.behind_splices.Given as goal

abbrev pub invariant-loop-splice : goal.invariant-loop-splice
invariant-loop-splice l = (o : Option (Bor (List ℕ))) → IsBehind (items_text l.is_later (items_of (map splice_data (edits (drop l.splice-index l.splices))))) l.rest o
    → IsBehind (compact_text (array (items_of (map splice_data (edits l.splices))))) l.fn.bytes o
