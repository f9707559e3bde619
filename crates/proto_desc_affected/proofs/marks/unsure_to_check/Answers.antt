use Rattle.std.proofs.Common.{◌≡◌, ◌<◌, ◌+◌, ℕ, true, Bool, false, List, All, length, get_or, take, sym, ap, subst, ◌∙◌, inl, inr, arith, length-set, slice_set, take_all}
use Rattle.std.proofs.lemmas.Bool.{cases_Bool, false≢true}
use Rattle.std.proofs.lemmas.List.Elements.{All-contains, All-more}
use Rattle.proto_base.proofs.Common.{get_or-map}
use Rattle.proto_names_affected.proofs.Inserted.{inserted_marked, inserted_stay}
use Rattle.proto_desc_affected.specs.Checked.{nothing_kept}
use Rattle.proto_desc_affected.specs.Common.{file_summary_of, file_summaries_of}
use Rattle.proto_desc_affected.proofs.AskedFiles.{IsAsked, asked_stay}
use Rattle.proto_desc_affected.proofs.marks.unsure_to_check.Goals.{then-not-is_kept_still, else-not-is_kept_still}
use Rattle.proto_desc_affected.proofs.marks.unsure_to_check.Goals as goal

pub loop-file-preserved : goal.loop-file-preserved
loop-file-preserved c =
    let files = c.args.linked.now.files in
    let places = c.args.places.now in
    let l = c.args.linked.now.link in
    let kept = c.args.kept.files.now in
    let ks = file_summaries_of kept in
    let asked = c.deref-file-items.result.now in
    let i = c.loop-file.file-index in
    let file = get_or asked i 0 in
    let was = c.loop-file.affected in
    let within : file < length files = omega (arith, subst (All (λ (f : ℕ). f < c.file_count-file_count.result)) (sym c.deref-file-items.ensures.value) c.in_ok-asked.ensures.within i 0 c.loop-file-test.true, c.file_count-file_count.ensures.len) in
    elim c.if-not-is_kept_still.branch [
      | then-not-is_kept_still w ↦
          let is : c.if-not-is_kept_still.affected ≡ slice_set was file true = w.affected-is ∙ w.insert.ensures in
          let now = c.if-not-is_kept_still.affected in
          record {
            len = ap length is ∙ length-set was file true ∙ c.loop-file.invariant.len;
            asked = All-more (IsAsked places files l ks now) asked i 0 c.loop-file-test.true
                (asked_stay places files l ks was now (inserted_stay was now file is) (take i asked) c.loop-file.invariant.asked)
                (λ off. absurd (false≢true (sym off ∙ inserted_marked was now file (omega (arith, within, c.loop-file.invariant.len)) is)));
          }
      | else-not-is_kept_still w ↦
          record {
            len = ap length w.affected-is ∙ c.loop-file.invariant.len;
            asked = subst (λ (s : List Bool). All (IsAsked places files l ks s) (take (i + 1) asked)) (sym w.affected-is)
                (All-more (IsAsked places files l ks was) asked i 0 c.loop-file-test.true c.loop-file.invariant.asked
                (λ _. (rw c.link-link.ensures.link at c.is_kept_still.ensures) w.if-not-is_kept_still.false places c.mark_places.ensures.marked files ks c.requires.still within
                (get_or-map file_summary_of kept file c.index-kept-file.result nothing_kept (omega (arith, within, c.requires.paired)))));
          }
    ]

pub returns-clause-others : goal.returns-clause-others
returns-clause-others c = λ file within off.
    let P = IsAsked c.args.places.now c.args.linked.now.files c.args.linked.now.link (file_summaries_of c.args.kept.files.now) c.loop-file.affected in
    let asked = c.deref-file-items.result.now in
    let whole = take_all c.loop-file.file-index asked c.loop-file-test.false ∙ c.deref-file-items.ensures.value in
    elim (cases_Bool (get_or c.args.unsure.now file false)) [
      | inl on ↦ inr (All-contains P c.in_ok-asked.asked.items file (subst (All P) whole c.loop-file.invariant.asked) (c.in_ok-asked.ensures.whole file (omega (arith, within, c.file_count-file_count.ensures.len)) on) off)
      | inr sure ↦ inl sure
    ]
