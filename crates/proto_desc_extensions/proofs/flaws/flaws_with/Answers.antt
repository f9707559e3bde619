use Rattle.std.proofs.Common.{◌≡◌, suc, ◌+◌, ◌<◌, [], ◌∷◌, length, length-append, map, Some, ap, ◌∙◌, arith}
use Rattle.proto_files.proofs.Common.{each_pushed}
use Rattle.proto_ast.proofs.Common.{past}
use Rattle.proto_desc_extensions.specs.Common.{extensions_before, told, told_by, number_flaws}
use Rattle.proto_desc_extensions.proofs.WorkspaceNumbers.{flaws_told, seen_more}
use Rattle.proto_desc_extensions.proofs.flaws.flaws_with.Goals as goal

pub loop-file-preserved : goal.loop-file-preserved
loop-file-preserved c =
    let files = c.args.linked.now.files in
    let file = c.loop-file.file in
    let l : file < length files = omega (arith, c.loop-file-test.true, c.file_count-file-end.ensures.len) in
    let fs = c.in_ok-flaws_in.field-0 in
    let es = map told_by c.deref.result.now in
    let next : file + 1 ≡ suc file = omega arith in
    record {
      len = omega (arith, ap length c.in_ok-push.ensures.items, length-append c.loop-file.found.items (fs ∷ []), c.loop-file.invariant.len);
      each = λ reads are.
          each_pushed (λ k flaws. flaws.items ≡ number_flaws (Some past) files reads k) c.loop-file.found.items c.push.new.self.items fs file c.in_ok-push.ensures.items c.loop-file.invariant.len (c.loop-file.invariant.each reads are)
          (c.in_ok-flaws_in.ensures.flaws (map (told files reads) (extensions_before (Some past) files reads file)) (c.loop-file.invariant.seen reads are)
          ∙ flaws_told files reads c.args.linked.now.link (c.files-files.ensures.linked.link reads are) file c.profile.result (rw c.files-files.ensures.files at c.profile.ensures) es (ap (map told_by) c.deref.ensures.value ∙ c.in_ok-extensions.ensures reads are));
      seen = λ reads are.
          seen_more files reads file (file + 1) next es (ap (map told_by) c.deref.ensures.value ∙ c.in_ok-extensions.ensures reads are) c.flaws_in.new.seen
          (c.in_ok-flaws_in.ensures.seen (map (told files reads) (extensions_before (Some past) files reads file)) (c.loop-file.invariant.seen reads are));
    }

pub returns : goal.returns
returns c = record {
  len = omega (arith, c.loop-file.invariant.len, c.loop-file-test.false, c.file_count-file-end.ensures.len, c.loop-file.auto.file-end);
  each = c.loop-file.invariant.each;
}
