use Rattle.std.proofs.Common.{◌≡◌, All, Bool, List, false, length, ◌∙◌, ap, subst, sym, arith}
use Rattle.std.proofs.lemmas.List.{length-replicate, length_push}
use Rattle.std.proofs.lemmas.List.Elements.{All-push}
use Rattle.proto_names_affected.proofs.first_words.FirstWords.new.Goals as goal

pub loop-preserved : goal.loop-preserved
loop-preserved c = record {
  len = omega (arith, ap length c.in_ok-push.ensures.items, length_push c.loop.sets.items c.in_ok-new.field-0, c.loop.invariant.len);
  upper = omega (arith, c.loop-test.true);
  sized = subst (All (λ (set : List Bool). length set ≡ c.args.file_count)) (sym c.in_ok-push.ensures.items)
      (All-push (λ (set : List Bool). length set ≡ c.args.file_count) c.loop.sets.items c.in_ok-new.field-0 c.loop.invariant.sized (ap length c.in_ok-new.ensures ∙ length-replicate c.args.file_count false));
}

pub invariant_of-result : goal.invariant_of-result
invariant_of-result c = record {
  some = omega (arith, c.loop.invariant.len, c.loop-test.false);
  few = λ k d l. omega (arith, c.loop.invariant.sized k d l, c.requires);
}
