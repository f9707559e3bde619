use Rattle.std.proofs.Common.{length, ap, arith, length-append}
use Rattle.protoref_test_cases.proofs.unlike.in_words.Goals as goal

pub invariant_of-result : goal.invariant_of-result
invariant_of-result c = record { some = let e = ap length c.in_ok-text.ensures.ok in omega (arith, simp length-append at e) }
