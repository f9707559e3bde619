use Rattle.std.proofs.Common.{◌∷◌, map, take}
use Rattle.json.specs.Token.{begin_array}
use Rattle.proto_text.specs.Splicing.{edits}
use Rattle.proto_journal_records.specs.DataTokens.{AddsTokens}
use Rattle.proto_journal_records.specs.RecordText.{splice_data}
use Rattle.proto_journal_records.proofs.DataTexts.{all_tokens}
use Rattle.proto_journal_records.proofs.writing.write_splices.Given as goal

abbrev pub invariant-loop-splice : goal.invariant-loop-splice
invariant-loop-splice l = AddsTokens l.fn.writer l.writer (begin_array ∷ all_tokens (map splice_data (edits (take l.splice-index l.splices))))
