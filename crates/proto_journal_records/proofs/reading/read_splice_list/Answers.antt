use Rattle.std.proofs.Common.{rules, ◌≡◌, ◌<◌, ◌^◌, [], ◌∷◌, arith, ap, sym, ◌∙◌, add-one}
use Rattle.proto_base.proofs.Common.{common_steps, map-append}
use Rattle.json.specs.Value.{items_view}
use Rattle.proto_text.proofs.Common.{Edit, edit_of, edits}
use Rattle.proto_journal_records.specs.RecordText.{splice_data}
use Rattle.proto_journal_records.proofs.ReadSteps.{item_step, same_lengths}
use Rattle.proto_journal_records.proofs.reading.read_splice_list.Goals as goal

pub returns-in_default : goal.returns-in_default
returns-in_default c = λ es fit e.
    let s = item_step splice_data (λ (x : Edit). x.at < 2 ^ 32) c.args.values.now.items es c.loop-value.value-index c.value-item.result (search rules) fit e in
    let h = c.in_ok-splice.ensures s.0 s.1 (search (rules, s.2)) in
    rw c.in_default.is at h

pub loop-value-preserved : goal.loop-value-preserved
loop-value-preserved c = λ es fit e.
    let before = c.loop-value.invariant es fit e in
    let s = item_step splice_data (λ (x : Edit). x.at < 2 ^ 32) c.deref-value-items.result.now es c.loop-value.value-index c.value-item.result (search rules) fit e in
    let h = c.in_ok-splice.ensures s.0 s.1 (search (rules, s.2)) in
    let k : edit_of c.in-Some.splice ≡ s.0 = rw c.in-Some.is at h in
    ap edits c.in_ok-push.ensures.items ∙ map-append edit_of c.loop-value.list.items (c.in-Some.splice ∷ []) ∙ rw (before, k, add-one) (sym s.3)

pub returns : goal.returns
returns c = λ es fit e.
    let same = ap items_view c.deref-value-items.ensures.value ∙ e in
    let before = c.loop-value.invariant es fit same in
    let l = same_lengths splice_data c.deref-value-items.result.now es same in
    grind (arith, common_steps, before, l)
