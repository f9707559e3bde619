use Rattle.std.proofs.Common.{◌∙◌, ap, length, get_or, subst, sym, ◌<◌, All, length-set}
use Rattle.proto_names_imports.proofs.Ranks.{below_push}
use Rattle.proto_names_imports.proofs.import_cycles.release.Goals as goal
use Rattle.proto_names_imports.proofs.import_cycles.release.Goals.{then-left-eq0+in_ok-push, else-left-eq0}

pub loop-file-preserved : goal.loop-file-preserved
loop-file-preserved c =
    let n = length c.args.waiting.now.items in
    let file = get_or c.args.files.now c.loop-file.file-index 0 in
    record {
      len = length-set c.loop-file.waiting.items file c.saturating_sub-left.result ∙ c.loop-file.invariant.len;
      ready = elim c.if-left-eq0.branch [
        | then-left-eq0+in_ok-push w ↦
            below_push n c.loop-file.ready.items c.if-left-eq0.ready.items file (ap (λ v. v.items) w.ready-is ∙ w.in_ok-push.ensures.items) c.loop-file.invariant.ready (c.requires.within c.loop-file.file-index 0 c.loop-file-test.true)
        | else-left-eq0 w ↦ subst (λ v. All (λ g. g < n) v.items) (sym w.ready-is) c.loop-file.invariant.ready
      ];
    }
