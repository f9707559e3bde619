use Rattle.std.proofs.Common.{◌≡◌, All, Bool, List, false, length, replicate, ◌∙◌, ap, subst, sym, arith}
use Rattle.std.proofs.lemmas.List.{length-replicate, length_push}
use Rattle.std.proofs.lemmas.List.Elements.{All-push}
use Rattle.proto_option_files.proofs.option_files.OptionFiles.empty.Goals as goal

pub loop-preserved : goal.loop-preserved
loop-preserved c =
    let Blank = λ (set : List Bool). set ≡ replicate c.args.file_count false in
    record {
      len = omega (arith, ap length c.in_ok-push.ensures.items, length_push c.loop.sets.items c.in_ok-new.field-0, c.loop.invariant.len);
      upper = omega (arith, c.loop-test.true);
      blank = subst (All Blank) (sym c.in_ok-push.ensures.items) (All-push Blank c.loop.sets.items c.in_ok-new.field-0 c.loop.invariant.blank c.in_ok-new.ensures);
    }

pub invariant_of-result : goal.invariant_of-result
invariant_of-result c = record {
  some = omega (arith, c.loop.invariant.len, c.loop-test.false);
  few = λ k d l. omega (arith, ap length (c.loop.invariant.blank k d l) ∙ length-replicate c.args.file_count false, c.requires);
}
