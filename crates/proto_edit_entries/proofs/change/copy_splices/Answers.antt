use Rattle.std.proofs.Common.{◌≡◌, ◌+◌, List, [], ◌∷◌, ◌++◌, drop, sym, ap, ◌∙◌, append_assoc, append-nil, arith}
use Rattle.proto_base.proofs.Common.{drop_all, drop_more, IfOk-weaker}
use Rattle.proto_text.specs.declared.splice.Splice.{Splice}
use Rattle.proto_text.specs.Splicing.{edit_of, edits}
use Rattle.proto_edit_entries.proofs.change.copy_splices.Goals as goal

pub loop-splice-preserved : goal.loop-splice-preserved
loop-splice-preserved c =
    let items = c.as_slice-items.result.now in
    let done = c.loop-splice.list.items in
    let splice = c.splice-item.result in
    let rest = drop (c.loop-splice.splice-index + 1) items in
    let left : drop c.loop-splice.splice-index items ≡ splice ∷ rest =
    drop_more items c.loop-splice.splice-index splice c.loop-splice-test.true ∙ ap (λ (s : Splice). s ∷ rest) (sym c.splice-item.is) in
    let added = rw (c.as_str.ensures.value, c.as_str-in-loop-splice.ensures.value) at c.in_ok-push_splice.ensures in
    ap (λ es. es ++ edits rest) added
    ∙ append_assoc (edits done) (edit_of splice ∷ []) (edits rest)
    ∙ ap (λ (ss : List Splice). edits done ++ edits ss) (sym left) ∙ c.loop-splice.invariant

pub returns : goal.returns
returns c =
    let items = c.as_slice-items.result.now in
    let done = c.loop-splice.list.items in
    let all : edits done ≡ edits items =
    sym (append-nil (edits done)) ∙ ap (λ (ss : List Splice). edits done ++ edits ss) (sym (drop_all c.loop-splice.splice-index items (omega arith))) ∙ c.loop-splice.invariant in
    IfOk-weaker c.in_order.result (λ copy. copy ≡ edits done) (λ copy. copy ≡ c.args.splices.now) (λ copy h. h ∙ all ∙ c.as_slice-items.ensures.items) c.in_order.ensures
