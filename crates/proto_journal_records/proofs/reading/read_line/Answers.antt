use Rattle.std.proofs.Common.{rules, ◌≡◌, [], ◌∷◌, ◌++◌, length, ap, sym, ◌∙◌, true≢false}
use Rattle.serde_json.specs.Written.{compact_text}
use Rattle.proto_journal_records.specs.RecordText.{record_data, record_text}
use Rattle.proto_journal_records.proofs.RecordTexts.{line_parts, text_some}
use Rattle.proto_journal_records.proofs.reading.read_line.Goals as goal

pub returns-in_default-clause-bad : goal.returns-in_default-clause-bad
returns-in_default-clause-bad c = λ is r h e.
    let none : length c.args.bytes.now ≡ 0 = search rules in
    text_some c.args.version r c.args.bytes.now none e

pub returns-then-last-ne10-clause-bad : goal.returns-then-last-ne10-clause-bad
returns-then-last-ne10-clause-bad c = λ is r h e.
    let split : c.args.bytes.now ≡ c.in-Some.line.now ++ c.in-Some.last.now ∷ [] = search rules in
    let p = line_parts c.args.version r c.args.bytes.now c.in-Some.line.now c.in-Some.last.now split e in
    c.if-last-ne10.true p.0

pub returns-in_default-2-clause-bad : goal.returns-in_default-2-clause-bad
returns-in_default-2-clause-bad c = λ is r h e.
    let split : c.args.bytes.now ≡ c.in-Some.line.now ++ c.in-Some.last.now ∷ [] = search rules in
    let p = line_parts c.args.version r c.args.bytes.now c.in-Some.line.now c.in-Some.last.now split e in
    let found = c.in_ok-found.ensures.shape r h p.1 in
    rw c.in_default-2.is at found

pub returns-else-is_text_of-clause-bad : goal.returns-else-is_text_of-clause-bad
returns-else-is_text_of-clause-bad c = λ is r h e.
    let split : c.args.bytes.now ≡ c.in-Some.line.now ++ c.in-Some.last.now ∷ [] = search rules in
    let p = line_parts c.args.version r c.args.bytes.now c.in-Some.line.now c.in-Some.last.now split e in
    let found = c.in_ok-found.ensures.shape r h p.1 in
    let same : c.in-Some-2.found ≡ r = rw c.in-Some-2.is at found in
    true≢false (sym (c.is_text_of.ensures.same.1 (ap (λ s. compact_text (record_data c.args.version s)) same ∙ sym p.1)) ∙ c.if-is_text_of.false)

pub is_text_of-requires : goal.is_text_of-requires
is_text_of-requires c = let told = c.in_ok-found.ensures.told in rw c.in-Some-2.is at told

pub returns-then-is_text_of-clause-ok : goal.returns-then-is_text_of-clause-ok
unfolding record_text
returns-then-is_text_of-clause-ok c =
    let line = c.in-Some.line.now in
    let split : c.args.bytes.now ≡ line ++ c.in-Some.last.now ∷ [] = search rules in
    let ends : c.in-Some.last.now ≡ 10 = search rules in
    let same : compact_text (record_data c.args.version c.in-Some-2.found) ≡ line = c.is_text_of.ensures.same.0 c.if-is_text_of.true in
    (ap (λ s. s ++ 10 ∷ []) same ∙ ap (λ b. line ++ b ∷ []) (sym ends) ∙ sym split, c.is_text_of.ensures.is)
