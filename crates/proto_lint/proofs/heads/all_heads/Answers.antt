use Rattle.std.proofs.Common.{◌≡◌, ◌<◌, List, [], ◌∷◌, ◌++◌, length, length-append, take, get_or, sym, ◌∙◌, ap, arith, take_all}
use Rattle.proto_files.specs.FilesRead.{ReadOf}
use Rattle.proto_names_imports.proofs.Turned.{take_more}
use Rattle.proto_lint.proofs.FileHeads.{heads_at, heads_count}
use Rattle.proto_lint.specs.Common.{heads, Head}
use Rattle.proto_lint.proofs.heads.all_heads.Goals as goal

pub loop-file-preserved : goal.loop-file-preserved
loop-file-preserved c =
    let files = c.args.files.now in
    let file = c.loop-file.file in
    let h : Head = c.in_ok-of.field-0 in
    record {
      len = omega (arith, ap length c.in_ok-push.ensures.items, length-append c.loop-file.all.items (h ∷ []), c.loop-file.invariant.len);
      heads = λ (reads : List ReadOf) are.
          (let all = heads files reads in
          let within : file < length reads = omega (arith, are.same, c.loop-file-test.true, c.len-file-end.ensures.len) in
          let same : h ≡ get_or all file h = c.in_ok-of.ensures reads are ∙ sym (heads_at files reads file h within) in
          c.in_ok-push.ensures.items ∙ ap (λ (hs : List Head). hs ++ h ∷ []) (c.loop-file.invariant.heads reads are) ∙ ap (λ (x : Head). take file all ++ x ∷ []) same
          ∙ sym (take_more all file h (omega (arith, within, heads_count files reads))));
    }

pub returns-clause-few : goal.returns-clause-few
returns-clause-few c = omega (arith, c.loop-file.invariant.len, c.loop-file.auto.file-end, c.len-file-end.ensures.len, c.len-file-end.ensures.workspace.few)

pub returns-clause-heads : goal.returns-clause-heads
returns-clause-heads c = λ (reads : List ReadOf) are.
    (let files = c.args.files.now in
    c.loop-file.invariant.heads reads are ∙ take_all c.loop-file.file (heads files reads) (omega (arith, are.same, heads_count files reads, c.loop-file-test.false, c.len-file-end.ensures.len)))
