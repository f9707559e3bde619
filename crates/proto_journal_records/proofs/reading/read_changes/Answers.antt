use Rattle.std.proofs.Common.{rules, ◌≡◌, [], ◌∷◌, map, arith, ap, sym, ◌∙◌, add-one}
use Rattle.proto_base.proofs.Common.{common_steps, map-append}
use Rattle.json.specs.Value.{items_view}
use Rattle.proto_edit_entries.specs.Entries.{change_of, IsMeasured}
use Rattle.proto_journal_records.specs.RecordText.{change_data}
use Rattle.proto_journal_records.proofs.ReadSteps.{item_step, same_lengths}
use Rattle.proto_journal_records.proofs.reading.read_changes.Goals as goal

pub returns-in_default : goal.returns-in_default
returns-in_default c = λ cs fit e.
    let s = item_step change_data IsMeasured c.args.values.now.items cs c.loop-value.value-index c.value-item.result (search rules) fit e in
    let h = c.in_ok-change.ensures s.0 s.1 (search (rules, s.2)) in
    rw c.in_default.is at h

pub loop-value-preserved : goal.loop-value-preserved
loop-value-preserved c = λ cs fit e.
    let before = c.loop-value.invariant cs fit e in
    let s = item_step change_data IsMeasured c.deref-value-items.result.now cs c.loop-value.value-index c.value-item.result (search rules) fit e in
    let h = c.in_ok-change.ensures s.0 s.1 (search (rules, s.2)) in
    let k : change_of c.in-Some.change ≡ s.0 = rw c.in-Some.is at h in
    ap (map change_of) c.in_ok-push.ensures.items ∙ map-append change_of c.loop-value.changes.items (c.in-Some.change ∷ []) ∙ rw (before, k, add-one) (sym s.3)

pub returns : goal.returns
returns c = λ cs fit e.
    let same = ap items_view c.deref-value-items.ensures.value ∙ e in
    let before = c.loop-value.invariant cs fit same in
    let l = same_lengths change_data c.deref-value-items.result.now cs same in
    grind (arith, common_steps, before, l)
