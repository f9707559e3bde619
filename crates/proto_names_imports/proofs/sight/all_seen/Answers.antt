use Rattle.std.proofs.Common.{Bool, List, [], length, get_or, map, sym, ◌∙◌, ap, subst, arith}
use Rattle.proto_names_imports.proofs.SeenFiles.{MarksSight, pushed, walk_marks}
use Rattle.proto_names_imports.proofs.sight.all_seen.Goals as goal

pub loop-file-preserved : goal.loop-file-preserved
loop-file-preserved c =
    let sees = MarksSight (length c.args.imports.now) (map (λ v. v.items) c.args.imports.now) in
    let own = c.deref.ensures.value ∙ ap (λ v. v.items) c.index-imports-file.is in
    let marks = c.in_ok-seen_from.field-0 in
    let new = walk_marks (λ v. v.items) c.args.imports.now c.loop-file.file c.index-imports-file.result c.deref.result.now marks c.loop-file-test.true c.requires.within own c.in_ok-seen_from.ensures.exact in
    record {
      len = omega (arith, c.loop-file.invariant.len, c.in_ok-push.ensures.len, c.loop-file.seen.ok.0, c.push.new.self.ok.0);
      exact = λ k l. subst (λ z. sees k (get_or z k [])) (sym {A = List (List Bool)} c.in_ok-push.ensures.items) (pushed sees c.loop-file.seen.items marks c.loop-file.file c.loop-file.invariant.len c.loop-file.invariant.exact new k l);
    }

pub returns-clause-exact : goal.returns-clause-exact
returns-clause-exact c = λ w n same file l. c.loop-file.invariant.exact file (omega (arith, l, c.loop-file-test.false)) w n same
