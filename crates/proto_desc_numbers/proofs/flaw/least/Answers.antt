use Rattle.std.proofs.Common.{List, subst, refl, Contains, take_all}
use Rattle.proto_desc_numbers.specs.Common.{Flaw, IsLeastOfFlaws}
use Rattle.proto_desc_numbers.proofs.FlawLists.{least_none, least_more}
use Rattle.proto_desc_numbers.proofs.flaw.least.Goals as goal

pub loop-flaw-init : goal.loop-flaw-init
loop-flaw-init c = least_none

pub loop-flaw-preserved : goal.loop-flaw-preserved
loop-flaw-preserved c = least_more c.args.found.now c.loop-flaw.flaw-index _ _ c.lower-least.result c.loop-flaw-test.true refl (c.lower-least.ensures _ c.loop-flaw.invariant)

pub returns : goal.returns
returns c = subst (λ (xs : List Flaw). IsLeastOfFlaws (Contains xs) c.loop-flaw.least) (take_all c.loop-flaw.flaw-index c.args.found.now c.loop-flaw-test.false) c.loop-flaw.invariant
