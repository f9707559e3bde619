use Rattle.std.proofs.Common.{◌≡◌, ◌∙◌, ap, sym, subst, IsUtf8, IsSomeAnd}
use Rattle.std.proofs.lemmas.Result.{IfOk-weaker}
use Rattle.json.specs.Json.{document}
use Rattle.json.specs.Value.{value_view}
use Rattle.serde_json.specs.Written.{compact_text, outline}
use Rattle.proto_edit_entries.specs.Entries.{IsEntry}
use Rattle.proto_journal_records.specs.Common.{record_data, IsRecord, RecordOf, IsTold}
use Rattle.proto_journal_records.proofs.RecordTexts.{utf8_record, reads_record}
use Rattle.proto_journal_records.proofs.reading.read_shape.Goals as goal

pub returns-in_default-clause-shape : goal.returns-in_default-clause-shape
returns-in_default-clause-shape c = λ r is e.
    let v = c.args.version in
    let h = c.in_ok-value.ensures (outline (record_data v r)) (subst IsUtf8 (sym e) (utf8_record v r is)) (ap document e ∙ reads_record v r is) in
    rw c.in_default.is at h

pub returns-clause-shape : goal.returns-clause-shape
returns-clause-shape c =
    let v = c.args.version in
    IfOk-weaker c.read_record.result
    (λ found. (r : RecordOf) → IsEntry r.entry → IsTold v r.edit → value_view c.in-Some.value ≡ outline (record_data v r) → IsSomeAnd found (λ s. s ≡ r))
    (λ found. (r : RecordOf) → IsRecord v r → c.args.line.now ≡ compact_text (record_data v r) → IsSomeAnd found (λ s. s ≡ r))
    (λ found h r is e.
    let d = c.in_ok-value.ensures (outline (record_data v r)) (subst IsUtf8 (sym e) (utf8_record v r is)) (ap document e ∙ reads_record v r is) in
    let same : value_view c.in-Some.value ≡ outline (record_data v r) = rw c.in-Some.is at d in
    h r is.entry is.edit same)
    c.read_record.ensures.shape
