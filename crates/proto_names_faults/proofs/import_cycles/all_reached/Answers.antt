use Rattle.std.proofs.Common.{◌↔◌, ℕ, [], get_or, map, sym, subst, arith}
use Rattle.proto_names_imports.specs.Common.{IsMarked, Walks}
use Rattle.proto_names_imports.proofs.SeenFiles.{pushed}
use Rattle.proto_names_faults.proofs.import_cycles.all_reached.Goals as goal

pub loop-file-preserved : goal.loop-file-preserved
loop-file-preserved c =
    let next = map (λ v. v.items) c.args.next.now in
    let marks = c.in_ok-push.ensures.items in
    record {
      len = omega (arith, c.loop-file.invariant.len, c.in_ok-push.ensures.len, c.loop-file.marks.ok.0, c.push.new.self.ok.0);
      exact = λ from l to.
          (subst (λ z. IsMarked (get_or z from []) to ↔ Walks next from to) (sym marks)
          (pushed (λ j own. (q : ℕ) → IsMarked own q ↔ Walks next j q) c.loop-file.marks.items c.in_ok-reached_files.field-0 c.loop-file.file c.loop-file.invariant.len
          (λ j m q. c.loop-file.invariant.exact j m q) c.in_ok-reached_files.ensures.exact from l to));
    }

pub returns : goal.returns
returns c = λ from to l. c.loop-file.invariant.exact from (omega (arith, l, c.loop-file-test.false)) to
