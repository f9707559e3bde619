use Rattle.std.proofs.Common.{◌∙◌, ◌<◌, length, ap, subst, sym, All}
use Rattle.proto_names_imports.proofs.Ranks.{below_push}
use Rattle.proto_names_imports.proofs.import_cycles.empty_ones.Goals as goal
use Rattle.proto_names_imports.proofs.import_cycles.empty_ones.Goals.{then-is_empty+in_ok-push, else-is_empty}

pub loop-file-preserved : goal.loop-file-preserved
loop-file-preserved c =
    let n = length c.args.next.now in
    elim c.if-is_empty.branch [
      | then-is_empty+in_ok-push w ↦ below_push n c.loop-file.files.items c.if-is_empty.files.items c.loop-file.file (ap (λ v. v.items) w.files-is ∙ w.in_ok-push.ensures.items) c.loop-file.invariant c.loop-file-test.true
      | else-is_empty w ↦ subst (λ v. All (λ g. g < n) v.items) (sym w.files-is) c.loop-file.invariant
    ]
