use Rattle.std.proofs.Common.{◌<◌, List, Contains, length, sym, subst, ap, ◌∙◌, arith}
use Rattle.proto_base.proofs.Common.{contains_map, get_or-map}
use Rattle.proto_desc_affected.specs.Checked.{EnumSummaryOf, nothing_kept}
use Rattle.proto_desc_affected.specs.Common.{enum_summary_of, file_summary_of, file_summaries_of}
use Rattle.proto_desc_affected.proofs.still_enums.add_file.Goals as goal

pub loop-current-preserved : goal.loop-current-preserved
loop-current-preserved c = λ still.
    (let kept = c.args.kept.now in
    let file = c.args.file in
    let enums = c.in_ok-enums.enums.items in
    let one = c.current-item.result in
    let inside : file < length kept = omega (arith, c.requires.file, c.requires.paired) in
    (rw c.link-link.ensures.link at c.in_ok-add_enum.ensures) c.args.linked.now.files (file_summaries_of kept) file c.requires.file
    (get_or-map file_summary_of kept file c.index-kept-file.result nothing_kept inside ∙ ap file_summary_of (sym c.index-kept-file.is))
    (λ reads are. subst (λ (xs : List EnumSummaryOf). Contains xs (enum_summary_of one)) (c.in_ok-enums.ensures reads are)
    (contains_map enum_summary_of enums one (subst (λ xs. Contains xs one) c.deref-current-items.ensures.value (c.loop-current.current-index, c.loop-current-test.true, sym c.current-item.is))))
    (c.loop-current.invariant still))
