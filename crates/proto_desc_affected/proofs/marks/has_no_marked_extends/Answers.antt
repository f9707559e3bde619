use Rattle.std.proofs.Common.{◌≡◌, ◌<◌, ◌||◌, ℕ, All, false, length, get_or, refl, sym, ap, ap₂, subst, ◌∙◌, arith, take_all}
use Rattle.std.proofs.lemmas.List.Elements.{All-contains, All-more}
use Rattle.proto_desc_extensions.specs.Extends.{has_extend}
use Rattle.proto_base.proofs.Common.{false≢true, get_or-map, or_parts}
use Rattle.proto_files.proofs.Common.{read_at}
use Rattle.proto_names_affected.specs.Marking.{IsMarked}
use Rattle.proto_desc_affected.specs.Checked.{FileSummaryOf, nothing_kept}
use Rattle.proto_desc_affected.specs.Common.{file_summary_of, file_summaries_of}
use Rattle.proto_desc_affected.proofs.AskedFiles.{HasNoExtend}
use Rattle.proto_desc_affected.proofs.marks.has_no_marked_extends.Goals as goal

pub loop-file-preserved : goal.loop-file-preserved
loop-file-preserved c = λ reads are.
    (let kept = c.args.kept.now in
    let marked = c.deref-file-items.result.now in
    let i = c.loop-file.file-index in
    let at = get_or marked i 0 in
    let within : at < length kept = omega (arith, subst (All (λ (f : ℕ). f < c.len.result)) (sym c.deref-file-items.ensures.value) c.in_ok-marked.ensures.within i 0 c.loop-file-test.true, c.len.ensures.len, c.requires.paired) in
    let had = c.index-kept-file.result.has_extend in
    let none = or_parts had (has_extend (read_at reads at).tree) (sym (c.has_or_had_extend.ensures reads are) ∙ c.if-has_or_had_extend.false) in
    All-more (HasNoExtend reads (file_summaries_of kept)) marked i 0 c.loop-file-test.true (c.loop-file.invariant reads are)
    (ap (λ (k : FileSummaryOf). k.has_extend) (get_or-map file_summary_of kept at c.index-kept-file.result nothing_kept within ∙ ap file_summary_of (sym c.index-kept-file.is)) ∙ none.0, none.1))

pub returns-then-has_or_had_extend : goal.returns-then-has_or_had_extend
returns-then-has_or_had_extend c = (
  λ e. absurd (false≢true e),
  λ none.
      let kept = c.args.kept.now in
      let marked = c.deref-file-items.result.now in
      let i = c.loop-file.file-index in
      let at = get_or marked i 0 in
      let reads = c.are_read.ensures.0 in
      let are = c.are_read.ensures.1 in
      let below : at < c.len.result = subst (All (λ (f : ℕ). f < c.len.result)) (sym c.deref-file-items.ensures.value) c.in_ok-marked.ensures.within i 0 c.loop-file-test.true in
      let on = subst (All (IsMarked c.args.marks.now)) (sym c.deref-file-items.ensures.value) c.in_ok-marked.ensures.marked i 0 c.loop-file-test.true in
      let neither = none reads are at (omega (arith, below, c.len.ensures.len)) on in
      let had : c.index-kept-file.result.has_extend ≡ false =
      sym (ap (λ (k : FileSummaryOf). k.has_extend) (get_or-map file_summary_of kept at c.index-kept-file.result nothing_kept (omega (arith, below, c.len.ensures.len, c.requires.paired)) ∙ ap file_summary_of (sym c.index-kept-file.is)))
      ∙ neither.0
      in
      absurd (false≢true (sym (c.has_or_had_extend.ensures reads are ∙ ap₂ (λ a b. a || b) had neither.1) ∙ c.if-has_or_had_extend.true)),
)

pub returns : goal.returns
returns c = (
  λ same reads are file l on.
      let P = HasNoExtend reads (file_summaries_of c.args.kept.now) in
      let marked = c.deref-file-items.result.now in
      let whole = take_all c.loop-file.file-index marked c.loop-file-test.false ∙ c.deref-file-items.ensures.value in
      All-contains P c.in_ok-marked.marked.items file (subst (All P) whole (c.loop-file.invariant reads are)) (c.in_ok-marked.ensures.whole file (omega (arith, l, c.len.ensures.len)) on),
  λ none. refl,
)
