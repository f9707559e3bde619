use Rattle.std.proofs.Common.{ℕ, All, [], get_or, take, subst, ◌∙◌, arith, take_all}
use Rattle.std.proofs.lemmas.List.Elements.{All-contains, All-more}
use Rattle.proto_desc_affected.specs.Common.{IsEnumMarked}
use Rattle.proto_desc_affected.proofs.WantedMarks.{files_stay}
use Rattle.proto_desc_affected.proofs.marks.files_of_enums.Goals as goal

pub loop-file-preserved : goal.loop-file-preserved
loop-file-preserved c =
    let l = c.args.link.now in
    let marked = c.deref-file-items.result.now in
    let i = c.loop-file.file-index in
    let now = c.mark_enums.new.wanted in
    let stay = c.mark_enums.ensures.stay in
    record {
      len = stay.count ∙ c.loop-file.invariant.len;
      each = All-more (λ (file : ℕ). All (IsEnumMarked l now) (get_or l.meant file [])) marked i 0 c.loop-file-test.true
          (files_stay l c.loop-file.wanted now stay (take i marked) c.loop-file.invariant.each)
          (subst (All (IsEnumMarked l now)) c.meant_in.ensures.exact c.mark_enums.ensures.marked);
    }

pub returns : goal.returns
returns c =
    let P : ℕ → Type 0 = λ file. All (IsEnumMarked c.args.link.now c.loop-file.wanted) (get_or c.args.link.now.meant file []) in
    let marked = c.deref-file-items.result.now in
    let whole = take_all c.loop-file.file-index marked c.loop-file-test.false ∙ c.deref-file-items.ensures.value in
    record {
      len = c.loop-file.invariant.len;
      each = λ file l on. All-contains P c.in_ok-marked.marked.items file (subst (All P) whole c.loop-file.invariant.each) (c.in_ok-marked.ensures.whole file (omega (arith, l, c.len-file_count.ensures.len)) on);
    }
